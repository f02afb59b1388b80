-- What a question or a block answers, by its number (0: accepted) and its value. A refused one gives its refusal alone.
use Rattle.std.specs.Prelude.{ℕ, zero, suc, ◌+◌, ◌%◌, ◌^◌, Bool, cond, List, length, nat_lt, Result}
use Rattle.blocks.specs.declared.refusal.Refusal.{Refusal}
use Rattle.blocks.specs.Refusals.{answer}
use Rattle.blocks.specs.Blocks.{unless}
use Rattle.sums.specs.Ops.{Ops}
use Rattle.sums.specs.State.{State, refusal_of}
use Rattle.sums.specs.Runs.{needed, first_told, fill_number}
use Rattle.sums.specs.Counted.{Counted, block_number, plain, first_number, taken_outputs}
use Rattle.shape.specs.declared.numbers.Numbers.{Numbers}
use Rattle.shape.specs.declared.runs.Written.{Written}

-- the number of the first test that a state's numbers fail, 0 where they are accepted
abbrev pub refusal_in : Numbers → ℕ
refusal_in n = refusal_of n.order n.delay n.rate n.countdown n.unsettled

abbrev pub told_of : ℕ → ℕ → Result ℕ Refusal
told_of k v = answer k v

abbrev pub fitting_of : ℕ → Bool → Result Bool Refusal
fitting_of k b = answer k b

-- The decimator's block answers the count written and, of its first output, the count told and the input's number.
abbrev pub wrote_of : ℕ → ℕ → ℕ → ℕ → Result Written Refusal
wrote_of k count told number = answer k (record { count = count; told = told; number = number })

-- The interpolator's block answers the count of inputs read.
abbrev pub read_of : ℕ → ℕ → Result ℕ Refusal
read_of k count = answer k count

-- The decimator's answer, by the count written and what was found before the block: the unsettled count and the number of the input on
-- which the countdown ends, modulo 2 ^ 64, which no accepted block passes. Both are 0 where nothing is written.
unfoldable pub written_of : ℕ → ℕ → ℕ → ℕ → Written
written_of zero unsettled inputs countdown = record { count = 0; told = 0; number = 0 }
written_of (suc k) unsettled inputs countdown =
    record { count = suc k; told = unsettled; number = (inputs + (countdown + 1)) % 2 ^ 64 }

-- 23: the interpolator's block, of a state whose own number is k, over len inputs of which it needs so many.
abbrev pub fill_number_of : ℕ → ℕ → ℕ → ℕ
fill_number_of k need len = unless k k (cond (nat_lt len need) 23 0)

-- What the block of a state answers.
abbrev pub block_wrote : {A : Type 0} → Ops A → Counted A → List A → List A → Result Written Refusal
block_wrote o c xs out =
    let ys = taken_outputs o c xs in
    wrote_of (block_number c xs out) (needed (length xs) c.state.countdown c.state.rate) (first_told (plain ys)) (first_number ys)

abbrev pub block_read : {A : Type 0} → State A → List A → List A → Result ℕ Refusal
block_read s xs out = read_of (fill_number s xs out) (needed (length out) s.countdown s.rate)

-- The place after `at` in a ring of m cells: the first after the last.
unfoldable pub next_place : ℕ → ℕ → ℕ
next_place at m = cond (nat_lt (suc at) m) (suc at) 0
