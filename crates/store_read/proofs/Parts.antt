-- A text cut at its first separator.
use native.Mathlib.Omega.{arith}
use native.Mathlib.Numerals.{add-one}
use mathlib.Core.Path.{◌≡◌, ap, ◌∙◌}
use mathlib.Core.Bool.{Bool, true, false, cond}
use mathlib.Core.List.{List, [], ◌∷◌}
use Prim.Native.Nat.{ℕ, suc, ◌+◌, ◌-◌, ◌≤◌, ◌<◌}
use lib.Dec.{eqb}
use lib.ListN.{length, take, drop, length-drop, drop_of_length-le}
use lib.Seq.{drop-cons, take_all}
use Rattle.text.specs.Parts.{behind, count, end_of, parted}
use Rattle.text.proofs.Parting.{end_parted, parted-length}

module _ (sep : ℕ) (text : List ℕ) (end : ℕ) (e : end ≡ end_of sep text 0) where
  parts : parted sep text ≡ take end text ∷ behind sep (drop end text)
  parts =
      let z : end_of sep text 0 - 0 ≡ end_of sep text 0 = omega arith in
      rw e (end_parted sep text 0 (omega arith) ∙ ap (λ (k : ℕ). take k text ∷ behind sep (drop (end_of sep text 0) text)) z)

  pub one_left : length text ≤ end → parted sep text ≡ text ∷ []
  one_left h = parts ∙ rw (drop_of_length-le text h, take_all end text h)

  pub two_left : end < length text → parted sep text ≡ take end text ∷ parted sep (take (length text - (end + 1)) (drop (end + 1) text))
  two_left h =
      let l : length (drop (end + 1) text) ≤ length text - (end + 1) = omega (arith, length-drop (end + 1) text) in
      parts ∙ rw (take_all (length text - (end + 1)) (drop (end + 1) text) l, add-one, drop-cons text end 0 h)

count_most : (sep : ℕ) (text : List ℕ) → count sep text ≤ length text
unfolding count
count_most sep [] = omega arith
count_most sep (b ∷ text) = by (eqb b sep) (count_most sep text)
  where
    by : (t : Bool) → count sep text ≤ length text → cond t (suc (count sep text)) (count sep text) ≤ suc (length text)
    by true h = omega arith
    by false h = omega arith

pub parts_most : (sep : ℕ) (text : List ℕ) → length (parted sep text) ≤ suc (length text)
parts_most sep text = omega (arith, parted-length sep text, count_most sep text)
