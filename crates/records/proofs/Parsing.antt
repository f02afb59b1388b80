-- A line's fields: counted by its tabs, read one after the other, and what a record makes of their numbers.
use native.Mathlib.Omega.{arith}
use native.Mathlib.Numerals.{add-one}
use mathlib.Core.Path.{◌≡◌, refl, sym, ap, ap₂, ◌∙◌}
use mathlib.Core.Bool.{Bool, true, false, cond}
use mathlib.Core.List.{List, [], ◌∷◌}
use Prim.Native.Nat.{ℕ, suc, ◌+◌, ◌-◌, ◌^◌, min, ◌≤◌, ◌<◌}
use lib.Dec.{leb, ltb, eqb}
use lib.IntN.{ℤ, pos, negsuc}
use lib.ListN.{length, take, drop, drop_of_length-le, length-drop}
use lib.Seq.{drop-cons, get_or-drop}
use mir.Syntax.{w64}
use mir.ValLaws.{to_z_pos, to_z-neg}
use borrow.Author.Tests.{eq-eqb, ne_eqb, le-leb, lt-leb, leb-true, leb-false, ltb-true, ltb-false, eqb-true}
use Rattle.blocks.specs.Blocks.{unless}
use Rattle.text.specs.Letters.{tab}
use Rattle.text.specs.Numbers.{number_of, cap, capped}
use Rattle.text.specs.Parts.{parted, behind, count, end_of}
use Rattle.text.specs.Ranges.{Range, unsigned}
use Rattle.text.proofs.Parting.{parted-length, end_high, end_parted}
use Rattle.text.specs.declared.numbers.Number.{Number}
use Rattle.text.specs.declared.numbers.Number.TheVariants.{Plus, Minus}
use Rattle.std.specs.Prelude as std
use Rattle.std.specs.Prelude.{Some, None}
use Rattle.words.specs.Words.{wrap}
use Rattle.words.proofs.Reading.{word_is}
use Rattle.records.specs.Lines.{natural, word_range, number_number, field_at, size_of, value_of, fault_at, unknown_record, wrong_count, fields_fault, or_else, held_record, name_of, is_known, wanted_of, shaped_of, fields_record, record_of}
use Rattle.records.specs.Inner.Fields.{Reads, natural_of, integer_of, opening_of, opening_fields, rate_of, sample_of}
use Rattle.records.specs.declared.parse.Name.{Name}
use Rattle.records.specs.declared.parse.Natural.{Natural}
use Rattle.records.specs.declared.parse.Integer.{Integer}
use Rattle.records.specs.declared.parse.Record.{Record}
use Rattle.records.specs.declared.parse.Record.TheVariants.{Open, Rate, Sample, Bad}

-- where a field follows the place e, there is a tab at e
pub inside : (l : List ℕ) (e : ℕ) → 1 ≤ length (behind tab (drop e l)) → e < length l
inside l e h = by (ltb e (length l)) refl
  where
    by : (t : Bool) → ltb e (length l) ≡ t → e < length l
    by true q = ltb-true e (length l) q
    by false q =
        let k : length l ≤ e = ltb-false e (length l) q in
        let n : 1 ≤ 0 = rw (drop_of_length-le l k) at h in
        absurd (omega arith)

behind_some : (l : List ℕ) (e : ℕ) → e < length l → behind tab (drop e l) ≡ parted tab (drop (e + 1) l)
behind_some l e h = rw (add-one, drop-cons l e 0 h)

pub reads : (l : List ℕ) (e f : ℕ) (v : std.Option Number) → 1 ≤ length (behind tab (drop e l)) → f ≡ end_of tab l (e + 1) → v
    ≡ capped (number_of (take (f - (e + 1)) (drop (e + 1) l))) → Reads l e v f
reads l e f v h q n =
    let k = inside l e h in
    let c : behind tab (drop e l) ≡ take (f - (e + 1)) (drop (e + 1) l) ∷ behind tab (drop f l) = rw q
    (behind_some l e k ∙ end_parted tab l (e + 1) (omega arith)) in
    record {
      within = rw q (end_high tab l (e + 1) (omega arith));
      value = n ∙ sym (ap (λ (fs : List (List ℕ)). capped (field_at fs 0)) c);
      rest = sym (ap (λ (fs : List (List ℕ)). drop 1 fs) c);
    }

-- a size above the cap is outside each range
module _ (r : Range) (most : r.most < cap) (least : r.least < cap) where
  same_number : (n : std.Option Number) → number_number r (capped n) ≡ number_number r n
  same_number (Some (Plus v)) = by (leb v r.most) refl
    where
      by : (t : Bool) → leb v r.most ≡ t → number_number r (Some (Plus (min v cap))) ≡ number_number r (Some (Plus v))
      by true e = let h = leb-true v r.most e in let m : min v cap ≡ v = omega arith in rw m
      by false e = let h = leb-false v r.most e in rw (e, lt-leb (min v cap) r.most (omega arith))
  same_number (Some (Minus v)) = by (leb v r.least) refl
    where
      by : (t : Bool) → leb v r.least ≡ t → number_number r (Some (Minus (min v cap))) ≡ number_number r (Some (Minus v))
      by true e = let h = leb-true v r.least e in let m : min v cap ≡ v = omega arith in rw m
      by false e =
          let h = leb-false v r.least e in
          let x : v ≡ 0 → ⊥ = λ z. omega arith in
          let y : min v cap ≡ 0 → ⊥ = λ z. omega arith in
          rw (ne_eqb v 0 x, ne_eqb (min v cap) 0 y, e, lt-leb (min v cap) r.least (omega arith))
  same_number None = refl

  same_size : (n : std.Option Number) → number_number r n ≡ 0 → capped n ≡ n
  same_size (Some (Plus v)) = by (leb v r.most) refl
    where
      by : (t : Bool) → leb v r.most ≡ t → ◌≡◌ {A = ℕ} (cond t 0 76) 0 → Some (Plus (min v cap)) ≡ Some (Plus v)
      by true e z = let h = leb-true v r.most e in let m : min v cap ≡ v = omega arith in ap (λ (k : ℕ). Some (Plus k)) m
      by false e z = absurd (omega arith)
  same_size (Some (Minus v)) = by (eqb v 0) (leb v r.least) refl
    where
      by : (s t : Bool) → leb v r.least ≡ t → ◌≡◌ {A = ℕ} (cond s 75 (cond t 0 76)) 0 → Some (Minus (min v cap)) ≡ Some (Minus v)
      by true t e z = absurd (omega arith)
      by false true e z = let h = leb-true v r.least e in let m : min v cap ≡ v = omega arith in ap (λ (k : ℕ). Some (Minus k)) m
      by false false e z = absurd (omega arith)
  same_size None = λ z. refl

  judged-capped : {A : Type 0} (none : A) (f : std.Option Number → A) (n : std.Option Number)
      → unless (number_number r (capped n)) none (f (capped n)) ≡ unless (number_number r n) none (f n)
  judged-capped none f n = by (eqb (number_number r n) 0) refl
    where
      by : (t : Bool) → eqb (number_number r n) 0 ≡ t
          → unless (number_number r (capped n)) none (f (capped n)) ≡ unless (number_number r n) none (f n)
      by true e = rw (same_size n (eqb-true _ _ e))
      by false e = rw (same_number n, e)

pub natural-capped : (n : std.Option Number) → natural_of (capped n) ≡ natural_of n
natural-capped n =
    ap₂ (λ (k v : ℕ). record { number = k; value = v }) (same_number unsigned (omega arith) (omega arith) n)
    (judged-capped unsigned (omega arith) (omega arith) 0 size_of n)

pub integer_capped : (wide : Bool) (n : std.Option Number) → integer_of wide (capped n) ≡ integer_of wide n
integer_capped wide n =
    ap₂ (λ (k : ℕ) (v : ℤ). record { number = k; value = v }) (same_number (word_range wide) (most wide) (least wide) n)
    (judged-capped (word_range wide) (most wide) (least wide) (pos 0) value_of n)
  where
    most : (wide : Bool) → (word_range wide).most < cap
    most true = omega arith
    most false = omega arith

    least : (wide : Bool) → (word_range wide).least < cap
    least true = omega arith
    least false = omega arith

-- a number within the word
pub plus_in : (v : ℕ) → v ≤ 9223372036854775807 → wrap w64 (pos v) ≡ pos v
unfolding wrap
plus_in v h = rw (word_is w64 v (omega arith)) (to_z_pos w64 v (omega arith))

pub minus_in : (v : ℕ) → (v ≡ 0 → ⊥) → v ≤ 9223372036854775808 → wrap w64 (pos (18446744073709551615 - (v - 1))) ≡ negsuc (v - 1)
unfolding wrap
minus_in v k h =
    let m : 18446744073709551615 - (v - 1) ≡ 2 ^ 64 - suc (v - 1) = omega arith in
    rw (word_is w64 (18446744073709551615 - (v - 1)) (omega arith), m) (to_z-neg w64 (v - 1) (omega arith))

-- a sample by its sign and size, against the size of the word's least
abbrev pub of_word : ℕ → ℤ → Integer
of_word number value = record { number = number; value = value }

pub least-size-most : (wide : Bool) → (word_range wide).least ≤ 9223372036854775808
least-size-most true = omega arith
least-size-most false = omega arith

most_is : (wide : Bool) → (word_range wide).least ≡ (word_range wide).most + 1
most_is true = refl
most_is false = refl

module _ (wide : Bool) (v least : ℕ) (is : least ≡ (word_range wide).least) where
  pub plus-held : v < least → of_word 0 (pos v) ≡ integer_of wide (Some (Plus v))
  plus-held h = sym (rw (le-leb v (word_range wide).most (omega (arith, most_is wide))))

  pub plus-outside : least ≤ v → of_word 76 (pos 0) ≡ integer_of wide (Some (Plus v))
  plus-outside h = sym (rw (lt-leb v (word_range wide).most (omega (arith, most_is wide))))

  pub minus-none : v ≡ 0 → of_word 75 (pos 0) ≡ integer_of wide (Some (Minus v))
  minus-none z = sym (rw (eq-eqb v 0 z))

  pub minus-held : (v ≡ 0 → ⊥) → v ≤ least → of_word 0 (negsuc (v - 1)) ≡ integer_of wide (Some (Minus v))
  minus-held z h = sym (rw (ne_eqb v 0 z, le-leb v (word_range wide).least (omega arith)))

  pub minus-outside : (v ≡ 0 → ⊥) → least < v → of_word 76 (pos 0) ≡ integer_of wide (Some (Minus v))
  minus-outside z h = sym (rw (ne_eqb v 0 z, lt-leb v (word_range wide).least (omega arith)))

-- the second field is the first of what follows the first, and so on
pub second : (fs gs : List (List ℕ)) → gs ≡ drop 1 fs → field_at gs 0 ≡ field_at fs 1
second fs gs e = ap (λ (x : List (List ℕ)). field_at x 0) e ∙ ap number_of (get_or-drop 1 fs 0 [])

pub third : (fs gs hs : List (List ℕ)) → gs ≡ drop 1 fs → hs ≡ drop 1 gs → field_at hs 0 ≡ field_at fs 2
third fs gs hs e d = second gs hs d ∙ ap (λ (x : List (List ℕ)). field_at x 1) e ∙ ap number_of (get_or-drop 1 fs 1 [])

pub fewer : (l : List ℕ) (e : ℕ) (v : std.Option Number) (f : ℕ) → Reads l e v f → length (behind tab (drop f l)) ≡ length (behind tab (drop e l)) - 1
fewer l e v f r = ap (λ (x : List (List ℕ)). length x) r.rest ∙ length-drop 1 (behind tab (drop e l))

pub natural_is : (v : std.Option Number) (r : Natural) (n : std.Option Number) → v ≡ capped n → r ≡ natural_of v → r ≡ natural_of n
natural_is v r n e d = d ∙ ap natural_of e ∙ natural-capped n

pub integer_is : (wide : Bool) (v : std.Option Number) (r : Integer) (n : std.Option Number) → v ≡ capped n → r ≡ integer_of wide v → r ≡ integer_of wide n
integer_is wide v r n e d = d ∙ ap (integer_of wide) e ∙ integer_capped wide n

pub opening_is : (wide : Bool) (fs : List (List ℕ)) (a b c : Natural) → a ≡ natural_of (field_at fs 0) → b ≡ natural_of (field_at fs 1) → c
    ≡ natural_of (field_at fs 2) → opening_of wide a b c ≡ opening_fields wide fs
opening_is wide fs a b c p q s = rw (p, q, s)

-- one field, and three from left to right: the first bad one decides
bad_held : (p place : ℕ) (r : Record) → eqb p 0 ≡ false → Bad (fault_at p place) ≡ or_else (fault_at p place) r
bad_held p place r e = sym (rw e)

one-held : {A : Type 0} (p : ℕ) (make : A → Record) (none x : A)
    → unless p (Bad (fault_at p 2)) (make (unless p none x)) ≡ or_else (unless p (fault_at p 2) (fault_at 0 0)) (make x)
one-held p make none x = by (eqb p 0) refl
  where
    by : (t : Bool) → eqb p 0 ≡ t
        → unless p (Bad (fault_at p 2)) (make (unless p none x)) ≡ or_else (unless p (fault_at p 2) (fault_at 0 0)) (make x)
    by true e = rw e
    by false e = rw e (bad_held p 2 (make x) e)

three_held : (w : Bool) (p q r x y z : ℕ)
    → unless p (Bad (fault_at p 2)) (unless q (Bad (fault_at q 3)) (unless r (Bad (fault_at r 4))
    (Open w (unless p 0 x) (unless q 0 y) (unless r 0 z))))
    ≡ or_else (unless p (fault_at p 2) (unless q (fault_at q 3) (unless r (fault_at r 4) (fault_at 0 0)))) (Open w x y z)
three_held w p q r x y z = by (eqb p 0) (eqb q 0) (eqb r 0) refl refl refl
  where
    by : (s t u : Bool) → eqb p 0 ≡ s → eqb q 0 ≡ t → eqb r 0 ≡ u
        → unless p (Bad (fault_at p 2)) (unless q (Bad (fault_at q 3)) (unless r (Bad (fault_at r 4))
        (Open w (unless p 0 x) (unless q 0 y) (unless r 0 z))))
        ≡ or_else (unless p (fault_at p 2) (unless q (fault_at q 3) (unless r (fault_at r 4) (fault_at 0 0)))) (Open w x y z)
    by false t u e f g = rw e (bad_held p 2 (Open w x y z) e)
    by true false u e f g = rw (e, f) (bad_held q 3 (Open w x y z) f)
    by true true false e f g = rw (e, f, g) (bad_held r 4 (Open w x y z) g)
    by true true true e f g = rw (e, f, g)

pub opening_held : (wide w : Bool) (fs : List (List ℕ)) → length fs ≡ 3 → opening_fields w fs
    ≡ or_else (fields_fault wide 2 (natural ∷ natural ∷ natural ∷ []) fs)
    (Open w (size_of (field_at fs 0)) (size_of (field_at fs 1)) (size_of (field_at fs 2)))
opening_held wide w [] h = absurd (omega arith)
opening_held wide w (a ∷ []) h = absurd (omega arith)
opening_held wide w (a ∷ b ∷ []) h = absurd (omega arith)
opening_held wide w (a ∷ b ∷ c ∷ []) h =
    three_held w (number_number unsigned (number_of a)) (number_number unsigned (number_of b)) (number_number unsigned (number_of c))
    (size_of (number_of a)) (size_of (number_of b)) (size_of (number_of c))
opening_held wide w (a ∷ b ∷ c ∷ d ∷ fs) h = absurd (omega arith)

pub rate-held : (wide : Bool) (fs : List (List ℕ)) → length fs ≡ 1 → rate_of (natural_of (field_at fs 0)) ≡ held_record wide Name.Rate fs
rate-held wide [] h = absurd (omega arith)
rate-held wide (a ∷ []) h = one-held (number_number unsigned (number_of a)) Rate 0 (size_of (number_of a))
rate-held wide (a ∷ b ∷ fs) h = absurd (omega arith)

pub sample-held : (wide : Bool) (fs : List (List ℕ)) → length fs ≡ 1 → sample_of (integer_of wide (field_at fs 0)) ≡ held_record wide Name.X fs
sample-held wide [] h = absurd (omega arith)
sample-held wide (a ∷ []) h = one-held (number_number (word_range wide) (number_of a)) Sample (pos 0) (value_of (number_of a))
sample-held wide (a ∷ b ∷ fs) h = absurd (omega arith)

-- a line by its name, where the first tab stands at e
module _ (wide : Bool) (l : List ℕ) (e : ℕ) (first : e ≡ end_of tab l 0) where
  shaped : record_of wide l ≡ shaped_of wide (name_of (take e l)) (behind tab (drop e l))
  unfolding record_of
  shaped =
      let z : end_of tab l 0 - 0 ≡ end_of tab l 0 = omega arith in
      rw first (ap (fields_record wide) (end_parted tab l 0 (omega arith))
      ∙ ap (λ (n : ℕ). shaped_of wide (name_of (take n l)) (behind tab (drop (end_of tab l 0) l))) z)

  pub fields-count : length (behind tab (drop e l)) ≡ count tab l
  fields-count =
      let h : suc (length (behind tab (drop (end_of tab l 0) l)))
      ≡ suc (count tab l) = sym (ap length (end_parted tab l 0 (omega arith))) ∙ parted-length tab l in
      rw first (omega arith)

  module _ (name : Name) (named : name ≡ name_of (take e l)) where
    shaped_by_law : record_of wide l ≡ shaped_of wide name (behind tab (drop e l))
    shaped_by_law = shaped ∙ ap (λ (x : Name). shaped_of wide x (behind tab (drop e l))) (sym named)

    pub unknown : is_known name ≡ false → Bad unknown_record ≡ record_of wide l
    unknown h = sym (shaped_by_law ∙ rw h)

    module _ (n w : ℕ) (counted : n ≡ count tab l) (wants : w ≡ wanted_of name) (known : is_known name ≡ true) where
      pub miscounted : (n ≡ w → ⊥) → Bad wrong_count ≡ record_of wide l
      miscounted h =
          let s : length (behind tab (drop e l)) ≡ wanted_of name → ⊥ = λ x. h (counted ∙ sym fields-count ∙ x ∙ sym wants) in
          sym (shaped_by_law ∙ rw (known, ne_eqb _ _ s))

      module _ (enough : n ≡ w) where
        pub counts : length (behind tab (drop e l)) ≡ wanted_of name
        counts = fields-count ∙ sym counted ∙ enough ∙ wants

        pub formed : held_record wide name (behind tab (drop e l)) ≡ record_of wide l
        formed = sym (shaped_by_law ∙ rw (known, eq-eqb _ _ counts))
