-- A line read field by field: what is left to read, after the numbers so far.
use native.Mathlib.Omega.{arith}
use native.Mathlib.Numerals.{add-one}
use mathlib.Core.Path.{◌≡◌, refl, sym, ap, subst, ◌∙◌}
use mathlib.Core.Bool.{true, false}
use mathlib.Core.List.{List, [], ◌∷◌, ◌++◌, map, map-append, append_assoc, append-nil}
use mathlib.Core.Option.{Option as Maybe, none, some}
use Prim.Native.Nat.{ℕ, zero, suc, ◌+◌, ◌-◌, ◌*◌, ◌%◌, ◌^◌, ◌≤◌, ◌<◌, min}
use lib.IntN.{ℤ, pos, negsuc}
use lib.ListN.{length, drop, set, get_or, length-append, drop_of_length-le}
use lib.Seq.{drop-cons}
use mir.Syntax.{w32}
use borrow.Author.Tests.{lt-ltb, le-ltb, le-leb, lt-leb}
use Rattle.words.proofs.Reading.{word_is, wrap-word}
use Rattle.words.specs.Words.{word, wrap}
use Rattle.text.specs.Hex.{hex_digit}
use Rattle.text.specs.Letters.{bytes}
use Rattle.text.specs.Numbers.{cap, capped, number_of}
use Rattle.text.specs.Ranges.{Range, both, number_in, numbers_in, range, within}
use Rattle.text.specs.Same.{same}
use Rattle.text.specs.declared.numbers.Number.TheVariants.{Plus, Minus}
use Rattle.text.specs.declared.numbers.Number.{Number}
use Rattle.text.proofs.OneSpelling.{minus_one_law}
use Rattle.settings_text.specs.Fields.{hex_in, hexes_in, nibbles_in}
use Rattle.entries.specs.Entries.{eight, pad_to}
use Rattle.store_read.specs.Reading.{arch_by, numbers_read, word_by}
use Rattle.std.specs.Prelude.{Option, Some, None}

-- a field's word
module _ (field : List ℕ) (least most : ℕ) (low : least ≤ 2147483648) (high : most ≤ 4294967295) (n : Option Number)
    (e : n ≡ capped (number_of field)) where
  same_size : (v u : ℕ) → v ≡ min u cap → v ≤ 4294967295 → v ≡ u
  same_size v u p h = omega arith

  pub plus_in : (v : ℕ) → n ≡ Some (Plus v) → v ≤ most → Some v ≡ word_by (number_in (range least most) field)
  unfolding number_in
  plus_in v f h = by (number_of field) refl
    where
      by : (m : Option Number) → number_of field ≡ m → Some v ≡ word_by (within (range least most) (number_of field))
      by (Some (Plus u)) g =
          let q : Some (Plus v) ≡ Some (Plus (min u cap)) = sym f ∙ e ∙ ap capped g in
          let p : v ≡ min u cap = cc in
          let s : v ≡ u = same_size v u p (omega arith) in
          let w : word w32 (pos u) ≡ u = word_is w32 u (record { fits = omega arith }) in
          sym (rw (g, le-leb u most (omega arith), w) (ap Some (sym s)))
      by (Some (Minus u)) g = absurd (let q : Some (Plus v) ≡ Some (Minus (min u cap)) = sym f ∙ e ∙ ap capped g in let z : ◌≡◌ {A = ℕ} 0 1 = cc in omega arith)
      by None g = absurd (let q : Some (Plus v) ≡ None = sym f ∙ e ∙ ap capped g in let z : ◌≡◌ {A = ℕ} 0 1 = cc in omega arith)

  pub plus-out : (v : ℕ) → n ≡ Some (Plus v) → most < v → None ≡ word_by (number_in (range least most) field)
  unfolding number_in
  plus-out v f h = by (number_of field) refl
    where
      by : (m : Option Number) → number_of field ≡ m → None ≡ word_by (within (range least most) (number_of field))
      by (Some (Plus u)) g =
          let q : Some (Plus v) ≡ Some (Plus (min u cap)) = sym f ∙ e ∙ ap capped g in
          let p : v ≡ min u cap = cc in
          sym (rw (g, lt-leb u most (omega arith)))
      by (Some (Minus u)) g = absurd (let q : Some (Plus v) ≡ Some (Minus (min u cap)) = sym f ∙ e ∙ ap capped g in let z : ◌≡◌ {A = ℕ} 0 1 = cc in omega arith)
      by None g = absurd (let q : Some (Plus v) ≡ None = sym f ∙ e ∙ ap capped g in let z : ◌≡◌ {A = ℕ} 0 1 = cc in omega arith)

  pub minus_some : (v : ℕ) → n ≡ Some (Minus v) → 1 ≤ v
  minus_some v f = by (number_of field) refl
    where
      by : (m : Option Number) → number_of field ≡ m → 1 ≤ v
      by (Some (Plus u)) g = absurd (let q : Some (Minus v) ≡ Some (Plus (min u cap)) = sym f ∙ e ∙ ap capped g in let z : ◌≡◌ {A = ℕ} 0 1 = cc in omega arith)
      by (Some (Minus zero)) g = absurd (omega (arith, (minus_one_law field 0 (omega arith) g).1))
      by (Some (Minus (suc u))) g =
          let q : Some (Minus v) ≡ Some (Minus (min (suc u) cap)) = sym f ∙ e ∙ ap capped g in
          let p : v ≡ min (suc u) cap = cc in
          omega arith
      by None g = absurd (let q : Some (Minus v) ≡ None = sym f ∙ e ∙ ap capped g in let z : ◌≡◌ {A = ℕ} 0 1 = cc in omega arith)

  minus-word : (u : ℕ) → suc u ≤ 2147483648 → word w32 (negsuc u) ≡ 4294967296 - suc u
  unfolding word
  minus-word u h = omega arith

  pub minus_in : (v : ℕ) → n ≡ Some (Minus v) → v ≤ least → Some (4294967296 - v) ≡ word_by (number_in (range least most) field)
  unfolding number_in
  minus_in v f h = by (number_of field) refl
    where
      by : (m : Option Number) → number_of field ≡ m → Some (4294967296 - v) ≡ word_by (within (range least most) (number_of field))
      by (Some (Plus u)) g = absurd (let q : Some (Minus v) ≡ Some (Plus (min u cap)) = sym f ∙ e ∙ ap capped g in let z : ◌≡◌ {A = ℕ} 0 1 = cc in omega arith)
      by (Some (Minus zero)) g = absurd (omega (arith, (minus_one_law field 0 (omega arith) g).1))
      by (Some (Minus (suc u))) g =
          let q : Some (Minus v) ≡ Some (Minus (min (suc u) cap)) = sym f ∙ e ∙ ap capped g in
          let p : v ≡ min (suc u) cap = cc in
          let s : v ≡ suc u = same_size v (suc u) p (omega arith) in
          sym (rw (g, le-leb (suc u) least (omega arith), minus-word u (omega arith), s))
      by None g = absurd (let q : Some (Minus v) ≡ None = sym f ∙ e ∙ ap capped g in let z : ◌≡◌ {A = ℕ} 0 1 = cc in omega arith)

  pub minus-out : (v : ℕ) → n ≡ Some (Minus v) → least < v → None ≡ word_by (number_in (range least most) field)
  unfolding number_in
  minus-out v f h = by (number_of field) refl
    where
      by : (m : Option Number) → number_of field ≡ m → None ≡ word_by (within (range least most) (number_of field))
      by (Some (Plus u)) g = absurd (let q : Some (Minus v) ≡ Some (Plus (min u cap)) = sym f ∙ e ∙ ap capped g in let z : ◌≡◌ {A = ℕ} 0 1 = cc in omega arith)
      by (Some (Minus zero)) g = sym (rw g)
      by (Some (Minus (suc u))) g =
          let q : Some (Minus v) ≡ Some (Minus (min (suc u) cap)) = sym f ∙ e ∙ ap capped g in
          let p : v ≡ min (suc u) cap = cc in
          sym (rw (g, lt-leb (suc u) least (omega arith)))
      by None g = absurd (let q : Some (Minus v) ≡ None = sym f ∙ e ∙ ap capped g in let z : ◌≡◌ {A = ℕ} 0 1 = cc in omega arith)

  pub wrong_out : n ≡ None → None ≡ word_by (number_in (range least most) field)
  unfolding number_in
  wrong_out f = by (number_of field) refl
    where
      by : (m : Option Number) → number_of field ≡ m → None ≡ word_by (within (range least most) (number_of field))
      by (Some (Plus u)) g = absurd (let q : None ≡ Some (Plus (min u cap)) = sym f ∙ e ∙ ap capped g in let z : ◌≡◌ {A = ℕ} 0 1 = cc in omega arith)
      by (Some (Minus u)) g = absurd (let q : None ≡ Some (Minus (min u cap)) = sym f ∙ e ∙ ap capped g in let z : ◌≡◌ {A = ℕ} 0 1 = cc in omega arith)
      by None g = sym (rw g)

-- nibbles, from the last
pub other_length : (k : ℕ) (f : List ℕ) → (length f ≡ k → ⊥) → hexes_in k f ≡ none
unfolding hexes_in
other_length zero [] h = absurd (h refl)
other_length zero (b ∷ f) h = refl
other_length (suc k) [] h = refl
other_length (suc k) (b ∷ f) h = by (hex_in b) (other_length k f (λ e. h (ap suc e)))
  where
    by : (o : Maybe ℕ) → hexes_in k f ≡ none → both {B = ℕ} (λ d m. d + 16 * m) o (hexes_in k f) ≡ none
    by none e = refl
    by (some d) e = rw e

module _ (f : List ℕ) where
  hexes_at : (i : ℕ) → i < length f → hexes_in (length f - i) (drop i f) ≡ both (λ d m. d + 16 * m) (hex_in (get_or f i 0))
      (hexes_in (length f - (i + 1)) (drop (i + 1) f))
  unfolding hexes_in
  hexes_at i h =
      let m : length f - i ≡ suc (length f - (i + 1)) = omega arith in
      rw (m, drop-cons f i 0 h, add-one i)

  suffix_none : (i : ℕ) → i ≤ length f → hexes_in (length f - i) (drop i f) ≡ none → hexes_in (length f) f ≡ none
  suffix_none zero h e = let z : length f - 0 ≡ length f = omega arith in rw z at e
  suffix_none (suc i) h e = suffix_none i (omega arith) (hexes_at i h ∙ rw (add-one i, e) (by (hex_in (get_or f i 0))))
    where
      by : (o : Maybe ℕ) → both {A = ℕ} {B = ℕ} (λ d m. d + 16 * m) o none ≡ none
      by none = refl
      by (some d) = refl

  pub hex_wrong : (i d : ℕ) → i < length f → d ≡ hex_digit (get_or f i 0) → 15 < d → None ≡ arch_by (hexes_in (length f) f)
  unfolding hex_in
  hex_wrong i d h e l =
      let k : 15 < hex_digit (get_or f i 0) = omega arith in
      sym (ap arch_by (suffix_none i (omega arith) (hexes_at i h ∙ rw (lt-ltb _ _ k))))

  -- what the nibbles from i on give
  pub record Sofar (m i : ℕ) : Type 0 where
    pub whole : ℕ
    pub is : hexes_in (length f - i) (drop i f) ≡ some whole
    pub low : m ≡ whole % 2 ^ 32

  pub sofar_none : (k : ℕ) → length f ≡ k → Sofar 0 k
  unfolding hexes_in
  sofar_none k e =
      let z : length f - k ≡ 0 = omega arith in
      record { whole = 0; is = rw (z, drop_of_length-le f (let h : length f ≤ k = omega arith in h)); low = refl }

  pub sofar_on : (m i d : ℕ) → i < length f → Sofar m (i + 1) → d ≡ hex_digit (get_or f i 0) → d < 16 → Sofar (m % 268435456 * 16 + d) i
  unfolding hex_in
  sofar_on m i d h s e l =
      let k : hex_digit (get_or f i 0) ≤ 15 = omega arith in
      let w = s.whole in
      let q : m ≡ w % 4294967296 = s.low in
      let r : m % 268435456 * 16 + d ≡ (d + 16 * w) % 4294967296 = omega arith in
      record { whole = d + 16 * w; is = hexes_at i h ∙ rw (le-ltb 15 (hex_digit (get_or f i 0)) k, s.is, ← e); low = r }

  pub sofar_down : (m i d : ℕ) → 0 < i → i ≤ length f → Sofar m i → d ≡ hex_digit (get_or f (i - 1) 0) → d < 16 → Sofar
      (m % 268435456 * 16 + d) (i - 1)
  sofar_down m i d p h s e l =
      let q : i ≡ i - 1 + 1 = omega arith in
      sofar_on m (i - 1) d (omega arith) (subst (λ (k : ℕ). Sofar m k) q s) e l

  pub sofar_all : (m i : ℕ) → i ≤ 0 → Sofar m i → Some m ≡ arch_by (hexes_in (length f) f)
  sofar_all m i h s =
      let z : i ≡ 0 = omega arith in
      let y : length f - 0 ≡ length f = omega arith in
      let q : hexes_in (length f) f ≡ some s.whole = rw y at (rw z at s.is) in
      sym (rw q (ap Some (sym s.low)))

-- eight words
pub pad_length : (k : ℕ) (zs : List ℤ) → length (pad_to k zs) ≡ k
pad_length zero zs = refl
pad_length (suc k) [] = ap suc (pad_length k [])
pad_length (suc k) (z ∷ zs) = ap suc (pad_length k zs)

pad_set : (k : ℕ) (zs : List ℤ) (z : ℤ) → set (pad_to k zs) (length zs) z ≡ pad_to k (zs ++ (z ∷ []))
pad_set zero zs z = refl
pad_set (suc k) [] z = refl
pad_set (suc k) (y ∷ zs) z = ap (λ (l : List ℤ). y ∷ l) (pad_set k zs z)

map-length : (zs : List ℤ) → length (map (wrap w32) zs) ≡ length zs
map-length [] = refl
map-length (z ∷ zs) = ap suc (map-length zs)

eight_on : (zs : List ℤ) (z : ℤ) (n : ℕ) → length zs ≡ n → set (eight zs) n (wrap w32 (pos (word w32 z))) ≡ eight (zs ++ (z ∷ []))
eight_on zs z n e =
    rw (wrap-word w32 z)
    (ap (λ (k : ℕ). set (eight zs) k (wrap w32 z)) (sym (map-length zs ∙ e)) ∙ pad_set 8 (map (wrap w32) zs) (wrap w32 z) ∙ ap
    (pad_to 8) (sym (map-append (wrap w32) zs (z ∷ []))))

abbrev after : List ℤ → Maybe (List ℤ) → Maybe (List ℤ)
after zs none = none
after zs (some ys) = some (zs ++ ys)

after_on : (zs : List ℤ) (z : ℤ) (o : Maybe (List ℤ)) → after zs (both (λ y ys. y ∷ ys) (some z) o) ≡ after (zs ++ (z ∷ [])) o
after_on zs z none = refl
after_on zs z (some ys) = ap some (sym (append_assoc zs (z ∷ []) ys))

-- numbers so far, and the fields that are left
pub record Counting (r : Range) (fields : List (List ℕ)) (words : List ℤ) (n : ℕ) (left : List (List ℕ)) : Type 0 where
  pub before : List ℤ
  pub counted : length before ≡ n
  pub all : n + length left ≡ length fields
  pub shape : words ≡ eight before
  pub rest : numbers_in r fields ≡ after before (numbers_in r left)

module _ (r : Range) (fields : List (List ℕ)) where
  pub counting_none : Counting r fields (eight []) 0 fields
  counting_none = record { before = []; counted = refl; all = omega arith; shape = refl; rest = by (numbers_in r fields) }
    where
      by : (o : Maybe (List ℤ)) → o ≡ after [] o
      by none = refl
      by (some ys) = refl

  module _ (words : List ℤ) (n : ℕ) where
    pub counting_over : Counting r fields words n [] → Some (record { count = n; words = words }) ≡ numbers_read (numbers_in r fields)
    unfolding numbers_in
    counting_over c =
        let q : numbers_in r fields ≡ some c.before = c.rest ∙ ap some (append-nil c.before) in
        rw (q, c.counted, c.shape)

    module _ (field : List ℕ) (left : List (List ℕ)) (c : Counting r fields words n (field ∷ left)) where
      pub words_eight : length words ≡ 8
      words_eight = ap length c.shape ∙ pad_length 8 (map (wrap w32) c.before)

      step : numbers_in r fields ≡ after c.before (both (λ y ys. y ∷ ys) (number_in r field) (numbers_in r left))
      unfolding numbers_in
      step = c.rest

      pub counting_stops : None ≡ word_by (number_in r field) → None ≡ numbers_read (numbers_in r fields)
      counting_stops q = by (number_in r field) refl q
        where
          by : (o : Maybe ℤ) → number_in r field ≡ o → None ≡ word_by o → None ≡ numbers_read (numbers_in r fields)
          by none g k = let q : numbers_in r fields ≡ none = step ∙ rw g in sym (ap numbers_read q)
          by (some z) g k = cc

      pub counting_on : (w : ℕ) → Some w ≡ word_by (number_in r field) → Counting r fields (set words n (wrap w32 (pos w))) (n + 1) left
      counting_on w q = by (number_in r field) refl q
        where
          by : (o : Maybe ℤ) → number_in r field ≡ o → Some w ≡ word_by o → Counting r fields (set words n (wrap w32 (pos w))) (n + 1) left
          by none g k = cc
          by (some z) g k =
              let v : word w32 z ≡ w = cc in
              let s : Counting r fields words n (field ∷ left) = c in
              record {
                before = c.before ++ (z ∷ []);
                counted = length-append c.before (z ∷ []) ∙ omega (arith, c.counted);
                all = omega (arith, c.all);
                shape = rw (← v, c.shape) (eight_on c.before z n c.counted);
                rest = step ∙ rw g (after_on c.before z (numbers_in r left));
              }

-- `-` for none
pub some_nibbles : (k : ℕ) (f : List ℕ) → 0 < k → arch_by (hexes_in k f) ≡ arch_by (nibbles_in k f)
unfolding nibbles_in
some_nibbles zero f h = absurd (omega arith)
some_nibbles (suc k) f h = refl

pub dash : (k : ℕ) (f : List ℕ) → k ≤ 0 → same f (bytes "-") ≡ true → Some 0 ≡ arch_by (nibbles_in k f)
unfolding nibbles_in
dash zero f h e = sym (rw e)
dash (suc k) f h e = absurd (omega arith)

pub no_dash : (k : ℕ) (f : List ℕ) → k ≤ 0 → same f (bytes "-") ≡ false → None ≡ arch_by (nibbles_in k f)
unfolding nibbles_in
no_dash zero f h e = sym (rw e)
no_dash (suc k) f h e = absurd (omega arith)
