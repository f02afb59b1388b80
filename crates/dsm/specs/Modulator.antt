-- 01, 'The modulator': what a step does, and the ranges.
use Rattle.std.specs.Prelude.{Bool, true, ◌&&◌, List, [], ◌∷◌, ◌++◌, ℕ, zero, suc, ◌+◌, ◌/◌, ◌%◌, ◌^◌, ℤ, pos, ◌+ℤ◌, ◌-ℤ◌, take, drop, ◌≤ℤ◌}
use Rattle.std.specs.Int.Signed.{le_z}
use Rattle.dsm.specs.declared.Dsm.{Dsm}

-- Accumulators run in order, each adding its predecessor's new value modulo 2 ^ 32 (the first adds x),
unfoldable pub accumulated : ℕ → List ℕ → List ℕ
accumulated x [] = []
accumulated x (a ∷ rest) = (a + x) % 2 ^ 32 ∷ accumulated ((a + x) % 2 ^ 32) rest

-- giving carries 0 or 1: what each sum lost, the last carry first.
unfoldable pub carries : ℕ → List ℕ → List ℕ
carries x [] = []
carries x (a ∷ rest) = carries ((a + x) % 2 ^ 32) rest ++ ((a + x) / 2 ^ 32 ∷ [])

-- From the last carry backwards: y becomes carry + y - retained,
unfoldable pub combined : ℤ → List ℕ → List ℤ → ℤ
combined y [] cells = y
combined y (carry ∷ rest) [] = y
combined y (carry ∷ rest) (cell ∷ cells) = combined (pos carry +ℤ y -ℤ cell) rest cells

-- and the old y is retained. Cells that no carry meets are kept.
unfoldable pub retaining : ℤ → List ℕ → List ℤ → List ℤ
retaining y [] cells = cells
retaining y (carry ∷ rest) [] = []
retaining y (carry ∷ rest) (cell ∷ cells) = y ∷ retaining (pos carry +ℤ y -ℤ cell) rest cells

-- The last carry is the first y, so K - 1 cells are used. K = 0 gives 0.
unfoldable pub output : List ℕ → List ℤ → ℤ
output [] cells = pos 0
output (last ∷ rest) cells = combined (pos last) rest cells

unfoldable pub keeping : List ℕ → List ℤ → List ℤ
keeping [] cells = cells
keeping (last ∷ rest) cells = retaining (pos last) rest cells

-- The step of order K on its state: the output, and the state after. Cells beyond K are kept.
abbrev pub carries_of : Dsm → ℕ → List ℕ
carries_of s x = carries x (take s.order s.accumulators)

unfoldable pub modulator_out : Dsm → ℕ → ℤ
modulator_out s x = output (carries_of s x) s.retained

unfoldable pub next_of : Dsm → ℕ → Dsm
next_of s x = record {
  order = s.order;
  accumulators = accumulated x (take s.order s.accumulators) ++ drop s.order s.accumulators;
  retained = keeping (carries_of s x) s.retained;
}

-- Retained cell j must lie in 1 - 2 ^ j .. 2 ^ j: a list of cells from cell j on.
abbrev pub inside : ℕ → ℤ → Bool
inside j z = le_z (pos 1 -ℤ pos (2 ^ j)) z && le_z z (pos (2 ^ j))

unfoldable pub inside_from : ℕ → List ℤ → Bool
inside_from j [] = true
inside_from j (cell ∷ cells) = inside j cell && inside_from (suc j) cells

-- The output lies in 1 - 2 ^ (K - 1) .. 2 ^ (K - 1); at K = 0 it is 0.
abbrev pub least : ℕ → ℤ
least zero = pos 0
least (suc k) = pos 1 -ℤ pos (2 ^ k)

abbrev pub greatest : ℕ → ℤ
greatest zero = pos 0
greatest (suc k) = pos (2 ^ k)

pub record InRange (K : ℕ) (y : ℤ) : Type 0 where
  pub low : least K ≤ℤ y
  pub high : y ≤ℤ greatest K
