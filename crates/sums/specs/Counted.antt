-- 02, A8: the decimator's state gains the number of inputs taken, and each output tells its input's number, from 1. The count stands
-- beside the state: no rule of document 01 looks at it.
use Rattle.std.specs.Prelude.{cond, List, [], ◌∷◌, ℕ, suc, ◌+◌, ◌-◌, ◌^◌, ltb, length}
use Rattle.std.proofs.Math.Option.{Option, none, some}
use Rattle.blocks.specs.Blocks.{unless}
use Rattle.sums.specs.Ops.{Ops}
use Rattle.sums.specs.Machine.{Output}
use Rattle.sums.specs.State.{State, refusal, blank}
use Rattle.sums.specs.Calls.{resume_number, new_state, resume_state, rate_state, clear_state, settle_state, step_state, step_given}
use Rattle.sums.specs.Calls.{rise_state}
use Rattle.sums.specs.Runs.{needed, join, values, over, fill_state}

-- A state, and the number of inputs taken.
pub record Counted (A : Type 0) : Type 0 where
  pub state : State A
  pub inputs : ℕ

-- An output, the unsettled count that it found, and its input's number.
pub record Numbered (A : Type 0) : Type 0 where
  pub value : A
  pub told : ℕ
  pub number : ℕ

abbrev pub most_inputs : ℕ
most_inputs = 2 ^ 64 - 1

-- 16: a step at 2 ^ 64 - 1, and a whole block that would pass it. It comes after the state's own number k, and before 20.
unfoldable pub take_number_of : ℕ → ℕ → ℕ → ℕ
take_number_of k inputs more = unless k k (cond (ltb most_inputs (inputs + more)) 16 0)

abbrev pub take_number : {A : Type 0} → Counted A → ℕ → ℕ
take_number c more = take_number_of (refusal c.state) c.inputs more

-- 20: the output slice, of length room, is shorter than the block needs.
unfoldable pub block_number_of : ℕ → ℕ → ℕ → ℕ
block_number_of k need room = unless k k (cond (ltb room need) 20 0)

abbrev pub block_number : {A : Type 0} → Counted A → List A → List A → ℕ
block_number c xs out =
    block_number_of (take_number c (length xs)) (needed (length xs) c.state.countdown c.state.rate) (length out)

-- an output with its input's number, where there is one
abbrev pub with_number : {A : Type 0} → ℕ → Option (Output A) → Option (Numbered A)
with_number n none = none
with_number n (some y) = some (record { value = y.value; told = y.told; number = n })

-- outputs without their numbers
abbrev pub plain : {A : Type 0} → List (Numbered A) → List (Output A)
plain [] = []
plain (y ∷ l) = record { value = y.value; told = y.told } ∷ plain l

-- what a block tells: its first output's number, 0 where it gives none
abbrev pub first_number : {A : Type 0} → List (Numbered A) → ℕ
first_number [] = 0
first_number (y ∷ l) = y.number

module _ {A : Type 0} (o : Ops A) where
  -- new starts at 0, and a refused maker's state is all zero. resume takes the count as given. set_rate keeps it.
  abbrev pub blank_counted : Counted A
  blank_counted = record { state = blank o; inputs = 0 }

  abbrev pub new_counted : ℕ → ℕ → ℕ → Counted A
  new_counted order delay rate = record { state = new_state o order delay rate; inputs = 0 }

  abbrev pub resume_counted : ℕ → ℕ → ℕ → List A → List A → A → ℕ → ℕ → Counted A
  resume_counted order delay rate integrators combs hold countdown inputs = record {
    state = resume_state o order delay rate integrators combs hold countdown;
    inputs = unless (resume_number order delay rate countdown) 0 inputs;
  }

  abbrev pub rate_counted : Counted A → ℕ → Counted A
  rate_counted c rate = record { state = rate_state o c.state rate; inputs = c.inputs }

  -- clear starts at 0, and so does settle_interpolate, which clears. A refused call hands back the given state.
  abbrev pub clear_counted : Counted A → Counted A
  clear_counted c = record { state = clear_state o c.state; inputs = unless (refusal c.state) c.inputs 0 }

  abbrev pub settle_counted : Counted A → A → Counted A
  settle_counted c x = record { state = settle_state o c.state x; inputs = unless (refusal c.state) c.inputs 0 }

  -- Interpolator steps and blocks leave it.
  abbrev pub rise_counted : Counted A → Option A → Counted A
  rise_counted c x = record { state = rise_state o c.state x; inputs = c.inputs }

  abbrev pub fill_counted : Counted A → List A → List A → Counted A
  fill_counted c xs out = record { state = fill_state o c.state xs out; inputs = c.inputs }

  -- The decimator's step: one input more, and its output with that input's number.
  unfoldable pub take_state : Counted A → A → Counted A
  take_state c x = unless (take_number c 1) c (record { state = step_state o c.state x; inputs = suc c.inputs })

  unfoldable pub take_given : Counted A → A → Option (Numbered A)
  take_given c x = unless (take_number c 1) none (with_number (suc c.inputs) (step_given o c.state x))

  -- Its steps in turn: the outputs with what each tells, and the state at the end.
  unfoldable pub taken_outputs : Counted A → List A → List (Numbered A)
  taken_outputs c [] = []
  taken_outputs c (x ∷ xs) = join (take_given c x) (taken_outputs (take_state c x) xs)

  unfoldable pub taken_after : Counted A → List A → Counted A
  taken_after c [] = c
  taken_after c (x ∷ xs) = taken_after (take_state c x) xs

  -- 01: a block gives the outputs, told counts and state that its steps in turn would give. The rest of the output slice stays as it was.
  unfoldable pub block_state : Counted A → List A → List A → Counted A
  block_state c xs out = unless (block_number c xs out) c (taken_after c xs)

  unfoldable pub block_out : Counted A → List A → List A → List A
  block_out c xs out = unless (block_number c xs out) out (over (values (plain (taken_outputs c xs))) out)
