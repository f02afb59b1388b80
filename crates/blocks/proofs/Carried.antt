-- A filter whose state is carried beside what doesn't change gives what the filter gives.
use Rattle.std.proofs.Common.{◌≡◌, refl, ap, ◌∙◌, List, [], ◌∷◌}
use Rattle.blocks.specs.Scan.{scan, ends}

module _ {S T A B : Type 0} (out : S → A → B) (next : S → A → S) (gives : T → A → B) (after : T → A → T) (beside : S → T)
    (same_out : (s : S) (x : A) → gives (beside s) x ≡ out s x) (same_next : (s : S) (x : A) → after (beside s) x ≡ beside (next s x)) where
  pub carried_ends : (s : S) (xs : List A) → ends gives after (beside s) xs ≡ beside (ends out next s xs)
  carried_ends s [] = refl
  carried_ends s (x ∷ xs) = ap (λ (t : T). ends gives after t xs) (same_next s x) ∙ carried_ends (next s x) xs

  pub carried_scan : (s : S) (xs : List A) → scan gives after (beside s) xs ≡ scan out next s xs
  carried_scan s [] = refl
  carried_scan s (x ∷ xs) =
      (λ i. same_out s x i ∷ scan gives after (same_next s x i) xs) ∙ ap (λ (ys : List B). out s x ∷ ys) (carried_scan (next s x) xs)
