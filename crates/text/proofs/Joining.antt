-- A text is its parts with the separator between them, and has no others.
use native.Mathlib.Omega.{arith}
use mathlib.Core.Path.{◌≡◌, refl, sym, ap, ◌∙◌}
use mathlib.Core.Bool.{Bool, true, false, cond}
use mathlib.Core.List.{List, [], ◌∷◌, ◌++◌}
use Prim.Native.Nat.{ℕ, suc, ◌+◌, ◌<◌}
use lib.Dec.{eqb}
use lib.ListN.{length}
use borrow.Author.Tests.{eqb-true, eq-eqb, ne_eqb}
use Rattle.text.specs.Parts.{onto, parted, joined_by, count}
use Rattle.text.proofs.Parting.{parted-length, parted-plain, count-append}

-- no part holds the separator
pub data Plain (sep : ℕ) : List (List ℕ) → Type 0 where
  none : Plain sep []
  more : {f : List ℕ} {fs : List (List ℕ)} → count sep f ≡ 0 → Plain sep fs → Plain sep (f ∷ fs)

module _ (sep : ℕ) where
  parted-after : (f rest : List ℕ) → count sep f ≡ 0 → parted sep (f ++ (sep ∷ rest)) ≡ f ∷ parted sep rest
  unfolding parted count
  parted-after [] rest h = rw (eq-eqb sep sep refl)
  parted-after (b ∷ f) rest h = by (eqb b sep) refl h (parted-after f rest)
    where
      by : (t : Bool) → eqb b sep ≡ t → cond t (suc (count sep f)) (count sep f) ≡ 0 →
          (count sep f ≡ 0 → parted sep (f ++ (sep ∷ rest)) ≡ f ∷ parted sep rest)
          → cond (eqb b sep) ([] ∷ parted sep (f ++ (sep ∷ rest))) (onto b (parted sep (f ++ (sep ∷ rest)))) ≡ (b ∷ f) ∷ parted sep rest
      by true e k g = absurd (omega arith)
      by false e k g = rw e (ap (onto b) (g k))

  pub parted-joined : (f : List ℕ) (fs : List (List ℕ)) → Plain sep (f ∷ fs) → parted sep (joined_by sep (f ∷ fs)) ≡ f ∷ fs
  unfolding joined_by
  parted-joined f [] (more h none) = parted-plain sep f h
  parted-joined f (g ∷ fs) (more h r) = parted-after f (joined_by sep (g ∷ fs)) h ∙ ap (λ (l : List (List ℕ)). f ∷ l) (parted-joined g fs r)

  joined-onto : (b : ℕ) (ps : List (List ℕ)) → joined_by sep (onto b ps) ≡ b ∷ joined_by sep ps
  unfolding joined_by
  joined-onto b [] = refl
  joined-onto b (p ∷ []) = refl
  joined-onto b (p ∷ q ∷ ps) = refl

  joined_empty : (ps : List (List ℕ)) → 0 < length ps → joined_by sep ([] ∷ ps) ≡ sep ∷ joined_by sep ps
  unfolding joined_by
  joined_empty [] h = absurd (omega arith)
  joined_empty (p ∷ ps) h = refl

  pub joined-parted : (l : List ℕ) → joined_by sep (parted sep l) ≡ l
  unfolding joined_by parted
  joined-parted [] = refl
  joined-parted (b ∷ l) = by (eqb b sep) refl (joined-parted l)
    where
      by : (t : Bool) → eqb b sep ≡ t → joined_by sep (parted sep l) ≡ l → joined_by sep
          (cond t ([] ∷ parted sep l) (onto b (parted sep l))) ≡ b ∷ l
      by true e f = joined_empty (parted sep l) (omega (arith, parted-length sep l)) ∙ ap (λ (k : List ℕ). sep ∷ k) f ∙ ap
          (λ (x : ℕ). x ∷ l) (sym (eqb-true b sep e))
      by false e f = joined-onto b (parted sep l) ∙ ap (λ (k : List ℕ). b ∷ k) f

  -- another separator's count of a joined line
  pub count-joined : (other : ℕ) → (other ≡ sep → ⊥) → (fs : List (List ℕ)) → Plain other fs → count other (joined_by sep fs) ≡ 0
  unfolding joined_by count
  count-joined other d [] p = refl
  count-joined other d (f ∷ []) (more h p) = h
  count-joined other d (f ∷ g ∷ fs) (more h p) =
      let n : sep ≡ other → ⊥ = λ e. d (sym e) in
      count-append other f (sep ∷ joined_by sep (g ∷ fs)) ∙ rw (h, ne_eqb sep other n)
      (ap (λ (x : ℕ). 0 + x) (count-joined other d (g ∷ fs) p))
