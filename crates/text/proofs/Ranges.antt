-- A number's field holds that number, and no other field does: for any range, and for any number of fields.
use native.Mathlib.Omega.{arith}
use mathlib.Core.Path.{◌≡◌, refl, sym, ap, ◌∙◌}
use mathlib.Core.Bool.{Bool, true, false, cond, ◌&&◌}
use mathlib.Core.List.{List, [], ◌∷◌}
use mathlib.Core.Option.{Option, none, some}
use Prim.Native.Nat.{ℕ, zero, suc, ◌^◌, ◌≤◌, ◌<◌}
use lib.Dec.{leb}
use lib.IntN.{ℤ, pos, negsuc, nat_abs}
use lib.ListN.{length}
use borrow.Author.Tests.{leb-true, lt-leb}
use Rattle.text.specs.Numbers.{number_of, decimal_of, signed_of}
use Rattle.text.specs.Ranges.{both, Range, unsigned, lies, all_lie, within, number_in, numbers_in, texts}
use Rattle.text.specs.Parts.{count}
use Rattle.std.specs.Prelude as std
use Rattle.std.specs.Prelude.{Some, None}
use Rattle.text.specs.declared.numbers.Number.{Number}
use Rattle.text.specs.declared.numbers.Number.TheVariants.{Plus, Minus}
use Rattle.text.proofs.Numerals.{number-count}
use Rattle.text.proofs.Spelling.{decimal_most}
use Rattle.text.proofs.OneSpelling.{number-spelt, number-one, minus-spelt, minus_one_law}
use Rattle.text.proofs.Joining.{Plain, none, more}

-- two tests passed, and two options there
pub two : (a b : Bool) → (a && b) ≡ true → (a ≡ true) × (b ≡ true)
two true b h = (refl, h)
two false b h = absurd (let z : ◌≡◌ {A = ℕ} 0 1 = cc in omega arith)

pub record Both {A B C : Type 0} (f : A → B → C) (x : Option A) (y : Option B) (c : C) : Type 0 where
  pub first : A
  pub second : B
  pub here : x ≡ some first
  pub there : y ≡ some second
  pub is : f first second ≡ c

pub both_some : {A B C : Type 0} (f : A → B → C) (x : Option A) (y : Option B) (c : C) → both f x y ≡ some c → Both f x y c
both_some f (some a) (some b) c e = record { first = a; second = b; here = refl; there = refl; is = cc }
both_some f (some a) none c e = absurd (let z : ◌≡◌ {A = ℕ} 0 1 = cc in omega arith)
both_some f none y c e = absurd (let z : ◌≡◌ {A = ℕ} 0 1 = cc in omega arith)

-- numbers
cons_text : (f : List ℕ) (fs : List (List ℕ)) (z : ℤ) (zs : List ℤ) → f ≡ signed_of z → fs ≡ texts zs → f ∷ fs ≡ texts (z ∷ zs)
cons_text f fs z zs p q = rw (p, q)

module _ (r : Range) (low : r.least < 10 ^ 20) (high : r.most < 10 ^ 20) where
  pub number-again : (z : ℤ) → lies r z ≡ true → number_in r (signed_of z) ≡ some z
  unfolding number_in
  number-again (pos v) h = let k = leb-true v r.most h in rw (number-spelt v (omega arith), h)
  number-again (negsuc v) h = let k = leb-true (suc v) r.least h in rw (minus-spelt (suc v) (omega arith) (omega arith), h)

  pub number-only : (f : List ℕ) (z : ℤ) → number_in r f ≡ some z → (f ≡ signed_of z) × (lies r z ≡ true)
  unfolding number_in
  number-only f z e = by (number_of f) refl e
    where
      plus : (v : ℕ) → number_of f ≡ Some (Plus v) → (t : Bool) → leb v r.most ≡ t → cond t (some (pos v)) none ≡ some z →
          (f ≡ signed_of z) × (lies r z ≡ true)
      plus v g true h k =
          let p : pos v ≡ z = cc in
          let b = leb-true v r.most h in
          rw (← p) (number-one f v (omega arith) g, h)
      plus v g false h k = absurd (let z : ◌≡◌ {A = ℕ} 0 1 = cc in omega arith)

      minus : (v : ℕ) → number_of f ≡ Some (Minus (suc v)) → (t : Bool) → leb (suc v) r.least ≡ t → cond t (some (negsuc v)) none
          ≡ some z → (f ≡ signed_of z) × (lies r z ≡ true)
      minus v g true h k =
          let p : negsuc v ≡ z = cc in
          let b = leb-true (suc v) r.least h in
          rw (← p) ((minus_one_law f (suc v) (omega arith) g).0, h)
      minus v g false h k = absurd (let z : ◌≡◌ {A = ℕ} 0 1 = cc in omega arith)

      by : (m : std.Option Number) → number_of f ≡ m → within r m ≡ some z → (f ≡ signed_of z) × (lies r z ≡ true)
      by (Some (Plus v)) g k = plus v g (leb v r.most) refl k
      by (Some (Minus zero)) g k = absurd (let z : ◌≡◌ {A = ℕ} 0 1 = cc in omega arith)
      by (Some (Minus (suc v))) g k = minus v g (leb (suc v) r.least) refl k
      by None g k = absurd (let z : ◌≡◌ {A = ℕ} 0 1 = cc in omega arith)

  pub number-plain : (sep : ℕ) → sep < 45 → (f : List ℕ) (z : ℤ) → number_in r f ≡ some z → count sep f ≡ 0
  unfolding number_in
  number-plain sep s f z e =
      let nd : (leb 48 sep && leb sep 57) ≡ false = rw (lt-leb 48 sep (omega arith)) in
      let nm : sep ≡ 45 → ⊥ = λ q. omega arith in
      number-count sep nd nm f
      (λ w. let q : within r None ≡ some z = sym (ap (within r) w) ∙ e in let y : ◌≡◌ {A = ℕ} 0 1 = cc in omega arith)

  pub numbers-again : (zs : List ℤ) → all_lie r zs ≡ true → numbers_in r (texts zs) ≡ some zs
  unfolding numbers_in
  numbers-again [] h = refl
  numbers-again (z ∷ zs) h = let p = two (lies r z) (all_lie r zs) h in rw (number-again z p.0, numbers-again zs p.1)

  pub numbers-only : (fs : List (List ℕ)) (zs : List ℤ) → numbers_in r fs ≡ some zs → (fs ≡ texts zs) × (all_lie r zs ≡ true)
  unfolding numbers_in
  numbers-only [] zs e = let p : [] ≡ zs = cc in rw (← p) (refl, refl)
  numbers-only (f ∷ fs) zs e =
      let b = both_some {A = ℤ} {B = List ℤ} {C = List ℤ} (λ z zs. z ∷ zs) (number_in r f) (numbers_in r fs) zs e in
      let p = number-only f b.first b.here in
      let q = numbers-only fs b.second b.there in
      let i : b.first ∷ b.second ≡ zs = b.is in
      (cons_text f fs b.first b.second p.0 q.0 ∙ ap texts i, sym (ap (all_lie r) i) ∙ rw (p.1, q.1))

  pub numbers-plain : (sep : ℕ) → sep < 45 → (fs : List (List ℕ)) (zs : List ℤ) → numbers_in r fs ≡ some zs → Plain sep fs
  unfolding numbers_in
  numbers-plain sep s [] zs e = none
  numbers-plain sep s (f ∷ fs) zs e =
      let b = both_some {A = ℤ} {B = List ℤ} {C = List ℤ} (λ z zs. z ∷ zs) (number_in r f) (numbers_in r fs) zs e in
      more (number-plain sep s f b.first b.here) (numbers-plain sep s fs b.second b.there)

-- a number that is not below zero
pub natural-text : (z : ℤ) → lies unsigned z ≡ true → signed_of z ≡ decimal_of (nat_abs z)
natural-text (pos v) h = refl
natural-text (negsuc v) h = absurd (omega (arith, leb-true (suc v) 0 h))

pub natural-lies : (z : ℤ) → lies unsigned z ≡ true → leb (nat_abs z) 4294967295 ≡ true
natural-lies (pos v) h = h
natural-lies (negsuc v) h = absurd (omega (arith, leb-true (suc v) 0 h))

-- how long a text is
pub text-short : (r : Range) → r.least < 2 ^ 32 → r.most < 2 ^ 32 → (z : ℤ) → lies r z ≡ true → length (signed_of z) ≤ 11
text-short r l m (pos v) h = let k = leb-true v r.most h in let d = decimal_most v (omega arith) in omega arith
text-short r l m (negsuc v) h = let k = leb-true (suc v) r.least h in let d = decimal_most (suc v) (omega arith) in omega arith
