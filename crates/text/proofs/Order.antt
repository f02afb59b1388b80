-- What `<` says of two slices of bytes: it goes by the first byte that differs.
use Rattle.std.proofs.Common.{◌≡◌, refl, List, ◌∷◌, ℕ, Bool, true, false, cond, nat_lt, nat_eq, Ordering, Less, Equal, Greater}
use Rattle.std.specs.Ordering.{is_lt, nat_cmp, MatchOrdering, is_some_and}
use Rattle.std.specs.Prelude.{Some}
use Rattle.std.specs.Cmp.Lexicographic.{slice_partial_cmp}
use Rattle.std.proofs.lemmas.Cmp.{same_from_slice_cmp_tested}
use Rattle.text.specs.Order.{precedes}

pub next-byte : (x y : ℕ) (xs ys : List ℕ) (o : Ordering) → o ≡ nat_cmp x y
    → MatchOrdering o (precedes (x ∷ xs) (y ∷ ys) ≡ is_lt Less) (precedes (x ∷ xs) (y ∷ ys) ≡ precedes xs ys)
    (precedes (x ∷ xs) (y ∷ ys) ≡ is_lt Greater)
unfolding precedes
next-byte x y xs ys o e = by (nat_lt x y) (nat_eq x y) o e
  where
    by : (t u : Bool) (o : Ordering) → o ≡ cond t Less (cond u Equal Greater)
        → MatchOrdering o (cond t true (cond u (precedes xs ys) false) ≡ true) (cond t true (cond u (precedes xs ys) false) ≡ precedes xs ys)
        (cond t true (cond u (precedes xs ys) false) ≡ false)
    by true u o e = rw e refl
    by false true o e = rw e refl
    by false false o e = rw e refl

-- what `<` says is what the definition says
pub ascending : (a b : List ℕ) (t : Bool) → t ≡ is_some_and is_lt (slice_partial_cmp (λ x y. Some (nat_cmp x y)) a b) → t ≡ precedes a b
unfolding precedes
ascending a b t e = same_from_slice_cmp_tested nat_cmp is_lt precedes refl (λ y ys. refl) (λ x xs. refl) next-byte a b t e
