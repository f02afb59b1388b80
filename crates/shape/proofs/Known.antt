-- The numbers that the definitions of sums give are the numbers of refusals, or 0: so an answer's number is the definition's.
use Rattle.std.proofs.Common.{◌≡◌, ℕ, zero, suc, ◌*◌, ◌+◌, ◌-◌, ◌^◌, refl, Bool, true, false, cond, ltb, eqb}
use Rattle.std.proofs.Math.Option.{Option, none, some}
use mathlib.Core.Bool.{◌||◌}
use Rattle.blocks.specs.Blocks.{unless}
use Rattle.blocks.specs.Refusals.{answer, refusal_at, number_in}
use Rattle.sums.specs.State.{State, refusal_of, refusal}
use Rattle.sums.specs.Calls.{gain_of, gain_number_of, is_width, fit_number_of, rise_number}
use Rattle.sums.specs.Counted.{most_inputs, take_number_of, block_number_of}
use Rattle.shape.specs.Answers.{fill_number_of}

-- k is the number that an answer by k gives,
abbrev pub Known : ℕ → Type 0
Known k = number_in (answer k zero) ≡ k

-- whatever its value
pub known : {A : Type 0} (k : ℕ) (v : A) → Known k → number_in (answer k v) ≡ k
unfolding answer
known zero v p = refl
known (suc k) v p = p

pub known_cond : (b : Bool) (k n : ℕ) → Known k → Known n → Known (cond b k n)
known_cond true k n p q = p
known_cond false k n p q = q

pub known_unless : (k n : ℕ) → Known k → Known n → Known (unless k k n)
known_unless k n p q = known_cond (eqb k 0) n k q p

pub known_refusal : (o d r c u : ℕ) → Known (refusal_of o d r c u)
unfolding refusal_of answer refusal_at
known_refusal o d r c u =
    known_cond (ltb 8 o) 10 _ refl (known_cond (eqb d 0 || ltb 8 d) 11 _ refl (known_cond (ltb 65535 r) 12 _ refl
    (known_cond (ltb 65535 c) 13 _ refl (known_cond (ltb (o * d) u) 15 0 refl refl))))

pub known_gain : (o d r c u : ℕ) → Known (gain_number_of o d r c u)
unfolding gain_number_of answer refusal_at
known_gain o d r c u =
    known_unless (refusal_of o d r c 0) _ (known_refusal o d r c 0)
    (known_cond (ltb (2 ^ 63 - 1) (gain_of o d r)) 14 (refusal_of o d r c u) refl (known_refusal o d r c u))

pub known_fit : (k width b : ℕ) → Known k → Known (fit_number_of k width b)
unfolding fit_number_of answer refusal_at
known_fit k width b p =
    known_unless k _ p (known_cond (eqb b 0 || ltb width b) 17 _ refl (known_cond (is_width width) 0 17 refl refl))

pub known_take : (k inputs more : ℕ) → Known k → Known (take_number_of k inputs more)
unfolding take_number_of answer refusal_at
known_take k inputs more p = known_unless k _ p (known_cond (ltb most_inputs (inputs + more)) 16 0 refl refl)

pub known_block : (k need room : ℕ) → Known k → Known (block_number_of k need room)
unfolding block_number_of answer refusal_at
known_block k need room p = known_unless k _ p (known_cond (ltb room need) 20 0 refl refl)

pub known_fill : (k need len : ℕ) → Known k → Known (fill_number_of k need len)
unfolding answer refusal_at
known_fill k need len p = known_unless k _ p (known_cond (ltb len need) 23 0 refl refl)

pub known_rise : {A : Type 0} (s : State A) (x : Option A) → Known (rise_number s x)
unfolding rise_number answer refusal_at
known_rise s (some x) =
    known_unless (refusal s) _ (known_refusal s.order s.delay s.rate s.countdown s.unsettled)
    (known_cond (eqb s.countdown 0) 0 21 refl refl)
known_rise s none =
    known_unless (refusal s) _ (known_refusal s.order s.delay s.rate s.countdown s.unsettled)
    (known_cond (eqb s.countdown 0) 22 0 refl refl)
