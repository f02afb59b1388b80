-- 01: for K of 1 .. 8 from zero, total input = 2 ^ 32 · (total output - last retained cell used) + first accumulator.
use Rattle.std.specs.Prelude.{◌≡◌, List, [], ◌∷◌, ℕ, zero, suc, ◌+◌, ◌^◌, ◌≤◌, ℤ, pos, ◌+ℤ◌, ◌-ℤ◌, ◌*ℤ◌, get_or}
use Rattle.blocks.specs.Scan.{scan, ends}
use Rattle.dsm.specs.declared.Dsm.{Dsm}
use Rattle.dsm.specs.Modulator.{modulator_out, next_of}
use Rattle.dsm.specs.Calls.{zeros_of}

abbrev pub total_in : List ℕ → ℕ
total_in [] = 0
total_in (x ∷ xs) = x + total_in xs

abbrev pub total_out : List ℤ → ℤ
total_out [] = pos 0
total_out (y ∷ ys) = y +ℤ total_out ys

-- of K - 1 cells; for K = 1 the retained term is 0
abbrev pub last_of : ℕ → List ℤ → ℤ
last_of zero cells = pos 0
last_of (suc zero) cells = pos 0
last_of (suc (suc k)) cells = get_or cells k (pos 0)

abbrev pub last_used : Dsm → ℤ
last_used s = last_of s.order s.retained

abbrev pub first_accumulator : Dsm → ℕ
first_accumulator s = get_or s.accumulators 0 0

-- after the steps over xs
abbrev pub modulated : ℕ → List ℕ → List ℤ
modulated K xs = scan modulator_out next_of (zeros_of K) xs

abbrev pub modulator_after : ℕ → List ℕ → Dsm
modulator_after K xs = ends modulator_out next_of (zeros_of K) xs

-- Every K and every list, so after every step.
abbrev pub Totals : Type 0
Totals = (K : ℕ) (xs : List ℕ) → 1 ≤ K → K ≤ 8
    → pos (total_in xs) ≡ pos (2 ^ 32) *ℤ (total_out (modulated K xs) -ℤ last_used (modulator_after K xs)) +ℤ pos
    (first_accumulator (modulator_after K xs))
