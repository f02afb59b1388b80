-- What two texts of bytes are by `same`: it holds of equal lists alone, and goes by the first byte and the rest.
use mathlib.Core.Path.{◌≡◌, refl, ap}
use mathlib.Core.Bool.{Bool, true, false, cond}
use mathlib.Core.List.{List, [], ◌∷◌}
use Prim.Native.Nat.{ℕ}
use lib.Dec.{eqb}
use lib.ListN.{length}
use borrow.Author.Tests.{eq-eqb, eqb-true}
use Rattle.std.specs.Prelude.{◌&&◌, nat_eq}
use Rattle.std.specs.Cmp.Lexicographic.{pointwise}
use Rattle.text.specs.Same.{same}

pub same_self : (l : List ℕ) → same l l ≡ true
unfolding same
same_self [] = refl
same_self (a ∷ l) = rw (eq-eqb a a refl) (same_self l)

pub same_eq : (l k : List ℕ) → same l k ≡ true → l ≡ k
unfolding same
same_eq [] [] h = refl
same_eq [] (b ∷ k) h = cc
same_eq (a ∷ l) [] h = cc
same_eq (a ∷ l) (b ∷ k) h = by (eqb a b) refl (same_eq l k) h
  where
    by : (t : Bool) → eqb a b ≡ t → (same l k ≡ true → l ≡ k) → cond t (same l k) false ≡ true → a ∷ l ≡ b ∷ k
    by true e f h = let p : a ≡ b = eqb-true a b e in let q : l ≡ k = f h in cc
    by false e f h = cc

pub same_length : (l k : List ℕ) → (length l ≡ length k → ⊥) → same l k ≡ false
same_length l k h = by (same l k) refl
  where
    by : (t : Bool) → same l k ≡ t → t ≡ false
    by true e = absurd (h (ap length (same_eq l k e)))
    by false e = refl

-- what `==` says of two slices of bytes
pub pointwise-same : (l k : List ℕ) → pointwise nat_eq l k ≡ same l k
unfolding same
pointwise-same [] [] = refl
pointwise-same [] (b ∷ k) = refl
pointwise-same (a ∷ l) [] = refl
pointwise-same (a ∷ l) (b ∷ k) = by (nat_eq a b) (pointwise-same l k)
  where
    by : (t : Bool) → pointwise nat_eq l k ≡ same l k → (t && pointwise nat_eq l k) ≡ cond t (same l k) false
    by true e = e
    by false e = refl
