-- 02, A6: the engine keeps the last 190 inputs, the newest first, and weighs them with the table.
use Rattle.std.specs.Prelude.{List, [], ◌∷◌, ℕ, suc, ℤ, pos, ◌+ℤ◌, ◌*ℤ◌, take}
use Rattle.std.specs.Int.{w32}
use Rattle.words.specs.Words.{wrap}
use Rattle.fir.specs.Ways.{ways}

-- The newest input comes first and the oldest goes.
unfoldable pub taken : List ℤ → ℤ → List ℤ
taken cells x = x ∷ take 189 cells

-- The numbers of a list, number n times h n, added up.
unfoldable pub weights : (ℕ → ℕ) → List ℤ → ℤ
weights h [] = pos 0
weights h (x ∷ xs) = pos (h 0) *ℤ x +ℤ weights (λ n. h (suc n)) xs

-- An output: entry n of the table times the input n places back, added up modulo 2 ^ 32, read as i32.
unfoldable pub weighed : List ℤ → ℤ
weighed cells = wrap w32 (weights (ways 64 3) cells)
