-- Every call on a modulator: by its number (0: accepted), its state and its answer.
-- A refused call leaves the given state; a refused maker gives its refusal and, where a state is asked for, an all-zero one; a refused question
-- gives its refusal alone.
use Rattle.std.specs.Prelude.{◌≡◌, cond, List, ℕ, ◌-◌, ◌<◌, ltb, eqb, ℤ, pos, length, take, drop, get_or, replicate, Result, Ok}
use Rattle.std.specs.Result.{result_unwrap_or}
use Rattle.blocks.specs.declared.refusal.Refusal.{Refusal}
use Rattle.blocks.specs.Refusals.{answer}
use Rattle.blocks.specs.Scan.{scan, ends}
use Rattle.blocks.specs.Blocks.{unless}
use Rattle.dsm.specs.declared.Dsm.{Dsm}
use Rattle.dsm.specs.declared.OutputRange.{OutputRange}
use Rattle.dsm.specs.Modulator.{modulator_out, next_of, inside_from, least, greatest, InRange}

-- 30: modulator order above 8. 32: a retained carry out of range, of the K - 1 used. The tests run in ascending number.
abbrev pub order_number : ℕ → ℕ
order_number order = cond (ltb 8 order) 30 0

abbrev pub cells_number : Dsm → ℕ
cells_number s = cond (inside_from 0 (take (s.order - 1) s.retained)) 0 32

unfoldable pub state_number : Dsm → ℕ
state_number s = unless (order_number s.order) (order_number s.order) (cells_number s)

-- 31: slices of a one-to-one block differ in length. It stands between the two.
unfoldable pub run_number : Dsm → List ℕ → List ℤ → ℕ
run_number s xs ys =
    unless (order_number s.order) (order_number s.order) (cond (eqb (length xs) (length ys)) (cells_number s) 31)

-- The maker.
abbrev pub zeros_of : ℕ → Dsm
zeros_of order = record { order = order; accumulators = replicate 8 0; retained = replicate 8 (pos 0) }

abbrev pub modulator_of : ℕ → Result Dsm Refusal
modulator_of order = answer (order_number order) (zeros_of order)

-- What it answers, and what the answer gives where `Dsm::IDLE` stands for a refused one's state.
abbrev pub Makes : ℕ → Result Dsm Refusal → Type 0
Makes order r = (r ≡ modulator_of order) × (result_unwrap_or r (zeros_of 0) ≡ unless (order_number order) (zeros_of 0) (zeros_of order))

-- The step: the state after it, and its answer.
abbrev pub output_at : ℕ → ℤ → Result ℤ Refusal
output_at k y = answer k y

abbrev pub modulator_step : Dsm → ℕ → Dsm × Result ℤ Refusal
modulator_step s x = (unless (state_number s) s (next_of s x), output_at (state_number s) (modulator_out s x))

-- The output range.
abbrev pub range_at : ℕ → ℕ → Result OutputRange Refusal
range_at k order = answer k (record { least = least order; greatest = greatest order })

abbrev pub range_of : Dsm → Result OutputRange Refusal
range_of s = range_at (state_number s) s.order

-- What a call on s that leaves the state t keeps: the order, whether the state is accepted, and every cell that isn't used.
pub record Keeps (s t : Dsm) : Type 0 where
  pub order : t.order ≡ s.order
  pub accepted : state_number t ≡ state_number s
  pub accumulators : drop s.order t.accumulators ≡ drop s.order s.accumulators
  pub retained : drop (s.order - 1) t.retained ≡ drop (s.order - 1) s.retained

-- The step on s and x leaves the state t and answers r, and an output that is given lies in range.
pub record Steps (s : Dsm) (x : ℕ) (t : Dsm) (r : Result ℤ Refusal) : Type 0 where
  pub state : t ≡ (modulator_step s x).0
  pub out : r ≡ (modulator_step s x).1
  pub keeps : Keeps s t
  pub range : (y : ℤ) → r ≡ Ok y → InRange s.order y

-- The block on s, inputs xs and lent slice ys leaves the state t, answers r and leaves zs in the slice: what its steps in turn
-- would give. A refused block leaves the state and writes nothing.
pub record Runs (s : Dsm) (xs : List ℕ) (ys : List ℤ) (t : Dsm) (r : Result (Unit {0}) Refusal) (zs : List ℤ) : Type 0 where
  pub verdict : r ≡ answer (run_number s xs ys) tt
  pub state : t ≡ unless (run_number s xs ys) s (ends modulator_out next_of s xs)
  pub written : zs ≡ unless (run_number s xs ys) ys (scan modulator_out next_of s xs)
  pub keeps : Keeps s t
  pub range : r ≡ Ok tt → (i : ℕ) → i < length zs → InRange s.order (get_or zs i (pos 0))
