-- A block gives what its steps in turn would give: over any state, input and output.
use Rattle.std.specs.Prelude.{List, [], ◌∷◌}

module _ {S A B : Type 0} (out : S → A → B) (next : S → A → S) where
  -- the outputs
  abbrev pub scan : S → List A → List B
  scan s [] = []
  scan s (x ∷ xs) = out s x ∷ scan (next s x) xs

  -- the state at the end
  abbrev pub ends : S → List A → S
  ends s [] = s
  ends s (x ∷ xs) = ends (next s x) xs
