-- Parts between separators: the first part ends where `end_of` says, and the rest is parted again.
use native.Mathlib.Omega.{arith}
use mathlib.Core.Path.{◌≡◌, refl, sym, ap, ◌∙◌}
use mathlib.Core.Bool.{Bool, true, false, cond}
use mathlib.Core.List.{List, [], ◌∷◌, ◌++◌}
use Prim.Native.Nat.{ℕ, suc, ◌+◌, ◌-◌, ◌≤◌, ◌<◌}
use lib.Dec.{eqb, ltb}
use lib.ListN.{length, take, drop, get_or, drop_of_length-le, length-drop}
use lib.Seq.{drop-drop, get_or-drop}
use borrow.Author.Tests.{eqb-true, ltb-false}
use Rattle.std.specs.Prelude.{◌==◌, Some, None, position}
use Rattle.std.specs.Option.{unwrap_or}
use Rattle.std.specs.List.{position_or_len, count_by}
use Rattle.std.proofs.lemmas.List.Recursion.{is_position_or_len, is_count_by}
use Rattle.text.specs.Parts.{onto, parted, before, behind, count, end_of}

module _ (sep : ℕ) where
  -- the first part's length is the place of the first separator, and their count what a filter leaves
  pub length-before : (l : List ℕ) → length (before sep l) ≡ position_or_len (λ b. b == sep) l
  unfolding before
  length-before l = is_position_or_len (λ k. length (before sep k)) (λ b. b == sep) refl step l
    where
      step : (b : ℕ) (k : List ℕ) → length (cond (eqb b sep) [] (b ∷ before sep k)) ≡ cond (eqb b sep) 0 (1 + length (before sep k))
      step b k = by (eqb b sep)
        where
          by : (t : Bool) → length (cond t [] (b ∷ before sep k)) ≡ cond t 0 (1 + length (before sep k))
          by true = refl
          by false = omega arith

  pub count-count_by : (l : List ℕ) → count sep l ≡ count_by (λ b. b == sep) l
  unfolding count
  count-count_by l = is_count_by (count sep) (λ b. b == sep) refl more l
    where
      more : (b : ℕ) (k : List ℕ) → cond (eqb b sep) (suc (count sep k)) (count sep k) ≡ cond (eqb b sep) (1 + count sep k) (count sep k)
      more b k = by (eqb b sep)
        where
          by : (t : Bool) → cond t (suc (count sep k)) (count sep k) ≡ cond t (1 + count sep k) (count sep k)
          by true = omega arith
          by false = refl

  pub end_past : (l : List ℕ) (i : ℕ) → length l ≤ i → end_of sep l i ≡ i
  unfolding before
  end_past l i h = rw (drop_of_length-le l h) (omega arith)

  -- a text starts with its first part
  pub before-short : (l : List ℕ) → length (before sep l) ≤ length l
  unfolding before
  before-short [] = omega arith
  before-short (b ∷ l) = by (eqb b sep) (before-short l)
    where
      by : (t : Bool) → length (before sep l) ≤ length l → length (cond t [] (b ∷ before sep l)) ≤ suc (length l)
      by true h = omega arith
      by false h = omega arith

  -- where the first part ends, by the place of the first separator if there is one
  pub first-length : (l : List ℕ) → unwrap_or (position (λ b. b == sep) l) (length l) ≡ length (before sep l)
  first-length l = by (position_or_len (λ b. b == sep) l) (length-before l) (before-short l)
    where
      by : (n : ℕ) → length (before sep l) ≡ n → length (before sep l) ≤ length l
          → unwrap_or (cond (ltb n (length l)) (Some n) None) (length l) ≡ length (before sep l)
      by n e h = at (ltb n (length l)) refl
        where
          at : (t : Bool) → ltb n (length l) ≡ t → unwrap_or (cond t (Some n) None) (length l) ≡ length (before sep l)
          at true f = sym e
          at false f = let g = ltb-false n (length l) f in omega arith

  pub before-take : (l : List ℕ) → take (length (before sep l)) l ≡ before sep l
  unfolding before
  before-take [] = refl
  before-take (b ∷ l) = by (eqb b sep) (before-take l)
    where
      by : (t : Bool) → take (length (before sep l)) l ≡ before sep l → take (length (cond t [] (b ∷ before sep l))) (b ∷ l)
          ≡ cond t [] (b ∷ before sep l)
      by true h = refl
      by false h = ap (λ (k : List ℕ). b ∷ k) h

  pub parted-first : (l : List ℕ) → parted sep l ≡ before sep l ∷ behind sep (drop (length (before sep l)) l)
  unfolding before parted
  parted-first [] = refl
  parted-first (b ∷ l) = by (eqb b sep) (parted-first l)
    where
      by : (t : Bool) → parted sep l ≡ before sep l ∷ behind sep (drop (length (before sep l)) l)
          → cond t ([] ∷ parted sep l) (onto b (parted sep l))
          ≡ cond t [] (b ∷ before sep l) ∷ behind sep (drop (length (cond t [] (b ∷ before sep l))) (b ∷ l))
      by true h = refl
      by false h = ap (onto b) h

  -- one part more than there are separators
  pub parted-length : (l : List ℕ) → length (parted sep l) ≡ suc (count sep l)
  unfolding parted count
  parted-length [] = refl
  parted-length (b ∷ l) = by (eqb b sep) (parted sep l) (parted-length l)
    where
      by : (t : Bool) (ps : List (List ℕ)) → length ps ≡ suc (count sep l) → length (cond t ([] ∷ ps) (onto b ps))
          ≡ suc (cond t (suc (count sep l)) (count sep l))
      by true ps h = ap suc h
      by false [] h = absurd (omega arith)
      by false (p ∷ ps) h = h

module _ (sep : ℕ) (l : List ℕ) (from : ℕ) (within : from ≤ length l) where
  pub end_high : end_of sep l from ≤ length l
  end_high = omega (arith, before-short sep (drop from l), length-drop from l)

  -- the part from `from` on, as a slice
  pub end_part : take (end_of sep l from - from) (drop from l) ≡ before sep (drop from l)
  end_part =
      let e : end_of sep l from - from ≡ length (before sep (drop from l)) = omega arith in
      rw e (before-take sep (drop from l))

  pub end_parted : parted sep (drop from l) ≡ take (end_of sep l from - from) (drop from l) ∷ behind sep (drop (end_of sep l from) l)
  end_parted =
      rw end_part (parted-first sep (drop from l) ∙ ap (λ (k : List ℕ). before sep (drop from l) ∷ behind sep k)
      (drop-drop (length (before sep (drop from l))) from l))

module _ (sep : ℕ) where
  pub count-append : (k l : List ℕ) → count sep (k ++ l) ≡ count sep k + count sep l
  unfolding count
  count-append [] l = omega arith
  count-append (b ∷ k) l = by (eqb b sep) (count-append k l)
    where
      by : (t : Bool) → count sep (k ++ l) ≡ count sep k + count sep l → cond t (suc (count sep (k ++ l))) (count sep (k ++ l))
          ≡ cond t (suc (count sep k)) (count sep k) + count sep l
      by true h = omega arith
      by false h = h

  -- the first part has no separator, and where it ends before the text does, one stands there
  pub before-plain : (l : List ℕ) → count sep (before sep l) ≡ 0
  unfolding before count
  before-plain [] = refl
  before-plain (b ∷ l) = by (eqb b sep) refl (before-plain l)
    where
      by : (t : Bool) → eqb b sep ≡ t → count sep (before sep l) ≡ 0 → count sep (cond t [] (b ∷ before sep l)) ≡ 0
      by true e h = refl
      by false e h = rw e h

  before_at : (l : List ℕ) → length (before sep l) < length l → get_or l (length (before sep l)) 0 ≡ sep
  unfolding before
  before_at [] h = absurd (omega arith)
  before_at (b ∷ l) h = by (eqb b sep) refl (before_at l) h
    where
      by : (t : Bool) → eqb b sep ≡ t → (length (before sep l) < length l → get_or l (length (before sep l)) 0 ≡ sep)
          → length (cond t [] (b ∷ before sep l)) < suc (length l) → get_or (b ∷ l) (length (cond t [] (b ∷ before sep l))) 0 ≡ sep
      by true e f h = eqb-true b sep e
      by false e f h = f (omega arith)

  pub end_at : (l : List ℕ) (from : ℕ) → from ≤ length l → end_of sep l from < length l → get_or l (end_of sep l from) 0 ≡ sep
  end_at l from w h =
      sym (get_or-drop from l (length (before sep (drop from l))) 0) ∙ before_at (drop from l) (omega (arith, length-drop from l))

  -- a text without a separator is one part
  pub parted-plain : (l : List ℕ) → count sep l ≡ 0 → parted sep l ≡ l ∷ []
  unfolding parted count
  parted-plain [] h = refl
  parted-plain (b ∷ l) h = by (eqb b sep) (parted-plain l) h
    where
      by : (t : Bool) → (count sep l ≡ 0 → parted sep l ≡ l ∷ []) → cond t (suc (count sep l)) (count sep l) ≡ 0
          → cond t ([] ∷ parted sep l) (onto b (parted sep l)) ≡ (b ∷ l) ∷ []
      by true f k = absurd (omega arith)
      by false f k = ap (onto b) (f k)

  -- the parts and the separators between them make up the text
  unfoldable pub total : List (List ℕ) → ℕ
  total [] = 0
  total (p ∷ ps) = suc (length p + total ps)

  pub parted-total : (l : List ℕ) → total (parted sep l) ≡ suc (length l)
  unfolding parted total
  parted-total [] = refl
  parted-total (b ∷ l) = by (eqb b sep) (parted sep l) (parted-total l)
    where
      by : (t : Bool) (ps : List (List ℕ)) → total ps ≡ suc (length l) → total (cond t ([] ∷ ps) (onto b ps)) ≡ suc (suc (length l))
      by true ps h = omega arith
      by false [] h = absurd (omega arith)
      by false (p ∷ ps) h = omega arith
