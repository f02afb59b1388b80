-- Slices of two lengths are unlike.
use mathlib.Core.Path.{◌≡◌, refl, ap}
use mathlib.Core.List.{List, [], ◌∷◌}
use mathlib.Core.Bool.{Bool, true, false, cond}
use Prim.Native.Nat.{ℕ, suc}
use lib.Dec.{eqb}
use lib.ListN.{length}
use Rattle.rust_answers.specs.Lines.{unlike_all}

pub unlike_lengths : (a b : List ℕ) → (length a ≡ length b → ⊥) → unlike_all a b ≡ 1
unfolding unlike_all
unlike_lengths [] [] h = absurd (h refl)
unlike_lengths [] (y ∷ ys) h = refl
unlike_lengths (x ∷ xs) [] h = refl
unlike_lengths (x ∷ xs) (y ∷ ys) h = rw (unlike_lengths xs ys (λ e. h (ap suc e))) (either (eqb x y))
  where
    either : (t : Bool) → ◌≡◌ {A = ℕ} (cond t 1 1) 1
    either true = refl
    either false = refl
