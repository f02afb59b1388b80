-- Bytes in ascending order.
use Rattle.std.specs.Prelude.{Bool, true, false, cond, List, [], ◌∷◌, ℕ, ltb, eqb}

-- the first byte that differs decides; a beginning comes before the whole
unfoldable pub precedes : List ℕ → List ℕ → Bool
precedes [] [] = false
precedes [] (b ∷ bs) = true
precedes (a ∷ xs) [] = false
precedes (a ∷ xs) (b ∷ bs) = cond (ltb a b) true (cond (eqb a b) (precedes xs bs) false)
