-- Names: what a byte more tells, and that a name is short and holds no separator.
use native.Mathlib.Omega.{arith}
use native.Mathlib.Numerals.{add-one}
use mathlib.Core.Path.{◌≡◌, refl, sym}
use mathlib.Core.Bool.{true, false, ◌&&◌}
use mathlib.Core.List.{List, [], ◌∷◌}
use Prim.Native.Nat.{ℕ, ◌+◌, ◌≤◌, ◌<◌}
use lib.Dec.{leb}
use lib.ListN.{length, drop, get_or, drop_of_length-le}
use lib.Seq.{drop-cons}
use borrow.Author.Tests.{le-leb, lt-leb, leb-true, ne_eqb}
use Rattle.text.specs.Parts.{count}
use Rattle.text.proofs.Ranges.{two}
use Rattle.settings_text.specs.Fields.{is_letter, letters, is_name}

module _ (s : List ℕ) where
  pub empty_name_law : length s < 1 → false ≡ is_name s
  unfolding is_name
  empty_name_law h = sym (rw (lt-leb _ _ h))

  pub long-name : 1 ≤ length s → 16 < length s → false ≡ is_name s
  unfolding is_name
  long-name k h = sym (rw (le-leb _ _ k, lt-leb _ _ h))

  pub by_letters : 1 ≤ length s → length s ≤ 16 → is_name s ≡ letters s
  unfolding is_name
  by_letters k h = rw (le-leb _ _ k, le-leb _ _ h)

  pub letter_on : (i : ℕ) → i < length s → is_letter (get_or s i 0) ≡ true → letters (drop (i + 1) s) ≡ letters (drop i s)
  letter_on i h e = rw (add-one, drop-cons s i 0 h, e)

  pub letter_not : (i : ℕ) → i < length s → is_letter (get_or s i 0) ≡ false → letters (drop i s) ≡ false
  letter_not i h e = rw (drop-cons s i 0 h, e)

  pub letters_all : (i : ℕ) → length s ≤ i → letters (drop i s) ≡ true
  letters_all i h = rw (drop_of_length-le s h)

pub name-short : (s : List ℕ) → is_name s ≡ true → length s ≤ 16
unfolding is_name
name-short s h = leb-true _ _ (two (leb 1 (length s)) (leb (length s) 16) (two (leb 1 (length s) && leb (length s) 16) (letters s) h).0).1

letters-plain : (sep : ℕ) → sep < 45 → (l : List ℕ) → letters l ≡ true → count sep l ≡ 0
unfolding count
letters-plain sep s [] h = refl
letters-plain sep s (b ∷ l) h =
    let p = two (leb 97 b && leb b 122) (letters l) h in
    let q = two (leb 97 b) (leb b 122) p.0 in
    let d : b ≡ sep → ⊥ = λ e. omega (arith, leb-true 97 b q.0) in
    rw (ne_eqb b sep d) (letters-plain sep s l p.1)

pub name-plain : (sep : ℕ) → sep < 45 → (l : List ℕ) → is_name l ≡ true → count sep l ≡ 0
unfolding is_name
name-plain sep s l h = letters-plain sep s l (two (leb 1 (length l) && leb (length l) 16) (letters l) h).1
