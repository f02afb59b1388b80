-- Any parts give what the whole gives: the bytes are taken in turn, and after a refusal none is.
use mathlib.Core.Path.{◌≡◌, refl, sym, ap, ◌∙◌}
use mathlib.Core.Bool.{Bool, true, false, cond}
use mathlib.Core.List.{List, [], ◌∷◌, ◌++◌, append_assoc}
use Prim.Native.Nat.{ℕ}
use Rattle.coefficient_lines.specs.Parts.{Standing, byte_after, byte_given, part_after, part_given, AnyParts}

pub stopped : (s : Standing) (bs : List ℕ) → s.going ≡ false → (part_given s bs ≡ []) × (part_after s bs ≡ s)
unfolding part_given part_after
stopped s [] h = (refl, refl)
stopped s (b ∷ bs) h = (rw h, rw h)

given_parts : (s : Standing) (xs ys : List ℕ) → part_given s (xs ++ ys) ≡ part_given s xs ++ part_given (part_after s xs) ys
unfolding part_given part_after
given_parts s [] ys = refl
given_parts s (b ∷ xs) ys = by s.going refl (given_parts (byte_after s b) xs ys)
  where
    by : (t : Bool) → s.going ≡ t
        → part_given (byte_after s b) (xs ++ ys) ≡ part_given (byte_after s b) xs ++ part_given (part_after (byte_after s b) xs) ys
        → cond t (byte_given s b ++ part_given (byte_after s b) (xs ++ ys)) []
        ≡ cond t (byte_given s b ++ part_given (byte_after s b) xs) [] ++ part_given (cond t (part_after (byte_after s b) xs) s) ys
    by true e h = ap (λ (k : List ℕ). byte_given s b ++ k) h ∙ sym (append_assoc (byte_given s b) (part_given (byte_after s b) xs)
        (part_given (part_after (byte_after s b) xs) ys))
    by false e h = sym (stopped s ys e).0

after_parts : (s : Standing) (xs ys : List ℕ) → part_after s (xs ++ ys) ≡ part_after (part_after s xs) ys
unfolding part_after
after_parts s [] ys = refl
after_parts s (b ∷ xs) ys = by s.going refl (after_parts (byte_after s b) xs ys)
  where
    by : (t : Bool) → s.going ≡ t → part_after (byte_after s b) (xs ++ ys) ≡ part_after (part_after (byte_after s b) xs) ys
        → cond t (part_after (byte_after s b) (xs ++ ys)) s ≡ part_after (cond t (part_after (byte_after s b) xs) s) ys
    by true e h = h
    by false e h = sym (stopped s ys e).1

pub any_parts : AnyParts
any_parts s xs ys = record { given = given_parts s xs ys; after = after_parts s xs ys }
