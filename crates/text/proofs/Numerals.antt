-- What the next byte tells of a number.
use native.Mathlib.Omega.{arith}
use native.Mathlib.Numerals.{add-one}
use mathlib.Core.Path.{◌≡◌, refl, sym, ap, ◌∙◌}
use mathlib.Core.Bool.{Bool, true, false, cond}
use mathlib.Core.List.{List, [], ◌∷◌}
use Prim.Native.Nat.{ℕ, ◌+◌, ◌-◌, ◌*◌, ◌≤◌, ◌<◌, min}
use lib.Dec.{eqb}
use lib.ListN.{length, drop, get_or, drop_of_length-le}
use lib.Seq.{drop-cons}
use borrow.Author.Tests.{ne_eqb, eqb-true}
use Rattle.text.specs.Parts.{count}
use Rattle.text.specs.Numbers.{is_digit, digits_from, turned, leading_of, plain_of, number_of, cap, capped_size, capped, plus}
use Rattle.std.specs.Prelude.{Option, Some, None}
use Rattle.text.specs.declared.numbers.Number.TheVariants.{Plus, Minus}

-- a size above the cap may be cut to it before further digits
pub cuts : (bs : List ℕ) (v : ℕ) → capped_size (digits_from v bs) ≡ capped_size (digits_from (min v cap) bs)
unfolding digits_from
cuts [] v = ap Some (omega arith)
cuts (b ∷ bs) v = by (is_digit b) (cuts bs)
  where
    by : (t : Bool) → ((v : ℕ) → capped_size (digits_from v bs) ≡ capped_size (digits_from (min v cap) bs))
        → capped_size (cond t (digits_from (v * 10 + (b - 48)) bs) None) ≡ capped_size (cond t (digits_from (min v cap * 10 + (b - 48)) bs) None)
    by false f = refl
    by true f =
        f (v * 10 + (b - 48))
        ∙ ap (λ (k : ℕ). capped_size (digits_from k bs)) (omega arith)
        ∙ sym (f (min v cap * 10 + (b - 48)))

module _ (l : List ℕ) (i v : ℕ) (inside : i < length l) where
  pub no_digit : is_digit (get_or l i 0) ≡ false → digits_from v (drop i l) ≡ None
  unfolding digits_from
  no_digit h = rw (drop-cons l i 0 inside, h)

  pub digit : is_digit (get_or l i 0) ≡ true → digits_from v (drop i l) ≡ digits_from (v * 10 + (get_or l i 0 - 48)) (drop (i + 1) l)
  unfolding digits_from
  digit h = rw (add-one, drop-cons l i 0 inside, h)

pub over : (l : List ℕ) (i v : ℕ) → length l ≤ i → digits_from v (drop i l) ≡ Some v
unfolding digits_from
over l i v h = rw (drop_of_length-le l h)

pub turned_capped : (n : Option ℕ) → turned (capped_size n) ≡ capped (turned n)
turned_capped (Some v) = refl
turned_capped None = refl

pub plus_capped : (n : Option ℕ) → plus (capped_size n) ≡ capped (plus n)
plus_capped (Some v) = refl
plus_capped None = refl

-- the first byte, and whether another follows
pub leading_none : (l : List ℕ) → length l ≡ 0 → leading_of l ≡ None
unfolding leading_of
leading_none [] h = refl
leading_none (b ∷ l) h = absurd (omega arith)

pub leading_zero : (l : List ℕ) → get_or l 0 0 ≡ 48 → leading_of l ≡ None
unfolding leading_of
leading_zero [] h = refl
leading_zero (b ∷ l) h = rw h

pub leading_some : (l : List ℕ) → 0 < length l → (get_or l 0 0 ≡ 48 → ⊥) → leading_of l ≡ digits_from 0 l
unfolding leading_of
leading_some [] s h = absurd (omega arith)
leading_some (b ∷ l) s h = rw (ne_eqb b 48 h)

pub number_none : (l : List ℕ) → length l ≡ 0 → number_of l ≡ None
unfolding number_of
number_none [] h = refl
number_none (b ∷ l) h = absurd (omega arith)

pub number_minus : (l : List ℕ) → 0 < length l → get_or l 0 0 ≡ 45 → number_of l ≡ turned (leading_of (drop 1 l))
unfolding number_of
number_minus [] s h = absurd (omega arith)
number_minus (b ∷ l) s h = rw h

pub number_zero : (l : List ℕ) → length l ≡ 1 → get_or l 0 0 ≡ 48 → number_of l ≡ Some (Plus 0)
unfolding number_of plain_of
number_zero [] s h = absurd (omega arith)
number_zero (b ∷ []) s h = rw h
number_zero (b ∷ d ∷ l) s h = absurd (omega arith)

-- neither a minus nor 0 alone
number-plain : (l : List ℕ) → 0 < length l → (get_or l 0 0 ≡ 45 → ⊥) → number_of l ≡ plus (plain_of l)
unfolding number_of
number-plain [] s h = absurd (omega arith)
number-plain (b ∷ l) s h = rw (ne_eqb b 45 h)

pub number_many : (l : List ℕ) → 0 < length l → (get_or l 0 0 ≡ 45 → ⊥) → (length l ≡ 1 → ⊥) → number_of l ≡ plus (leading_of l)
unfolding plain_of
number_many [] s h n = absurd (omega arith)
number_many (b ∷ []) s h n = absurd (n refl)
number_many (b ∷ d ∷ l) s h n = number-plain (b ∷ d ∷ l) s h

pub number_other : (l : List ℕ) → 0 < length l → (get_or l 0 0 ≡ 45 → ⊥) → (get_or l 0 0 ≡ 48 → ⊥) → number_of l ≡ plus (leading_of l)
unfolding plain_of
number_other [] s h n = absurd (omega arith)
number_other (b ∷ []) s h n = number-plain (b ∷ []) s h ∙ rw (ne_eqb b 48 n)
number_other (b ∷ d ∷ l) s h n = number-plain (b ∷ d ∷ l) s h

-- what a field's parts give of its number, cut at the cap
pub some_minus : (n : Option ℕ) (v : ℕ) → capped_size n ≡ Some v → capped (turned n) ≡ Some (Minus v)
some_minus n v e = sym (turned_capped n) ∙ ap turned e

pub none_minus : (n : Option ℕ) → capped_size n ≡ None → capped (turned n) ≡ None
none_minus n e = sym (turned_capped n) ∙ ap turned e

pub some_plus : (n : Option ℕ) (v : ℕ) → capped_size n ≡ Some v → capped (plus n) ≡ Some (Plus v)
some_plus n v e = sym (plus_capped n) ∙ ap plus e

pub none_plus : (n : Option ℕ) → capped_size n ≡ None → capped (plus n) ≡ None
none_plus n e = sym (plus_capped n) ∙ ap plus e

pub ruleset fields = (number_none, number_minus, number_zero, number_many, number_other, some_minus, none_minus, some_plus, none_plus)

-- a number has no byte but digits and a minus
module _ (sep : ℕ) (no_digit : is_digit sep ≡ false) (no_minus : sep ≡ 45 → ⊥) where
  count_digit : (b : ℕ) (l : List ℕ) → is_digit b ≡ true → count sep (b ∷ l) ≡ count sep l
  unfolding count
  count_digit b l h =
      let n : b ≡ sep → ⊥ = λ e. let z : ◌≡◌ {A = Bool} true false = sym h ∙ ap is_digit e
      ∙ no_digit in let k : ◌≡◌ {A = ℕ} 0 1 = cc in omega arith in
      rw (ne_eqb b sep n)

  digits_count : (l : List ℕ) (v : ℕ) → (digits_from v l ≡ None → ⊥) → count sep l ≡ 0
  unfolding digits_from count
  digits_count [] v h = refl
  digits_count (b ∷ l) v h = by (is_digit b) refl (digits_count l (v * 10 + (b - 48))) h
    where
      by : (t : Bool) → is_digit b ≡ t → ((digits_from (v * 10 + (b - 48)) l ≡ None → ⊥) → count sep l ≡ 0)
          → (cond t (digits_from (v * 10 + (b - 48)) l) None ≡ None → ⊥) → count sep (b ∷ l) ≡ 0
      by true e f k = count_digit b l e ∙ f k
      by false e f k = absurd (k refl)

  leading_count : (l : List ℕ) → (leading_of l ≡ None → ⊥) → count sep l ≡ 0
  unfolding leading_of
  leading_count [] h = absurd (h refl)
  leading_count (b ∷ l) h = by (eqb b 48) h
    where
      by : (t : Bool) → (cond t None (digits_from 0 (b ∷ l)) ≡ None → ⊥) → count sep (b ∷ l) ≡ 0
      by true k = absurd (k refl)
      by false k = digits_count (b ∷ l) 0 k

  plain-count : (l : List ℕ) → (plain_of l ≡ None → ⊥) → count sep l ≡ 0
  unfolding plain_of count
  plain-count [] h = refl
  plain-count (b ∷ []) h = by (eqb b 48) refl h
    where
      by : (t : Bool) → eqb b 48 ≡ t → (cond t (Some 0) (leading_of (b ∷ [])) ≡ None → ⊥) → count sep (b ∷ []) ≡ 0
      by true e k = count_digit b [] (ap is_digit (eqb-true b 48 e))
      by false e k = leading_count (b ∷ []) k
  plain-count (b ∷ d ∷ l) h = leading_count (b ∷ d ∷ l) h

  pub number-count : (l : List ℕ) → (number_of l ≡ None → ⊥) → count sep l ≡ 0
  unfolding number_of count
  number-count [] h = refl
  number-count (b ∷ l) h = by (eqb b 45) refl h
    where
      by : (t : Bool) → eqb b 45 ≡ t → (cond t (turned (leading_of l)) (plus (plain_of (b ∷ l))) ≡ None → ⊥) → count sep (b ∷ l) ≡ 0
      by true e k =
          let n : b ≡ sep → ⊥ = λ q. no_minus (sym q ∙ eqb-true b 45 e) in
          rw (ne_eqb b sep n) (leading_count l (λ z. k (ap turned z)))
      by false e k = plain-count (b ∷ l) (λ z. k (ap plus z))
