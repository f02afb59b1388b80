-- A line's sixteen digits: eight letters that are compared and eight digits that are read (hex_letters Spelling).
use native.Mathlib.Omega.{arith}
use native.Mathlib.Nat.{pow-suc}
use mathlib.Core.Path.{◌≡◌, refl, sym, ap, ◌∙◌}
use mathlib.Core.Bool.{Bool, true, false, cond}
use mathlib.Core.List.{List, [], ◌∷◌, ◌++◌}
use Prim.Native.Nat.{ℕ, suc, ◌+◌, ◌*◌, ◌/◌, ◌%◌, ◌^◌, ◌≤◌, ◌<◌}
use mathlib.Core.Option.{some, none}
use lib.Dec.{eqb, ltb}
use lib.IntN.{pos}
use mir.Syntax.{w32}
use Rattle.words.specs.Words.{word, wrap}
use lib.ListN.{length, take, drop, get_or, length-append, length-take, length-drop}
use lib.Pow.{pow_mono}
use lib.Seq.{take_at, drop_at, take-add, take-suc, drop-drop, get_or-drop}
use borrow.Author.Tests.{eq-eqb, ne_eqb, eqb-true}
use Rattle.text.specs.Hex.{hex_digit, hex_from}
use Rattle.text.specs.Same.{same}
use Rattle.text.proofs.Sameness.{same_self, same_eq}
use Rattle.std.specs.Prelude as std
use Rattle.std.specs.Prelude.{Some, None}
use Rattle.desk.specs.Lines.{kind_of, bits_record, record_of}
use Rattle.desk.specs.declared.lines.Kind.{Kind}
use Rattle.hex_letters.specs.Letters.{letter_of, letters_of}
use Rattle.hex_letters.proofs.Spelling.{hex_parts, long, letters-again, letters_parts, letters-only, hex_before}
use Rattle.word_runs.specs.Runs.{word_in, next_number}
use Rattle.word_runs.specs.Inner.{found_of, eight_of}
use Rattle.word_runs.specs.declared.runs.Found.TheVariants.{Other}

-- the digits before bring their part
abbrev raised : ℕ → std.Option ℕ → std.Option ℕ
raised m (Some v) = Some (m + v)
raised m None = None

hex_raised : (bs : List ℕ) (m v : ℕ) → hex_from (m + v) bs ≡ raised (m * 16 ^ length bs) (hex_from v bs)
unfolding hex_from
hex_raised [] m v = ap Some (omega arith)
hex_raised (b ∷ bs) m v =
    let e : (m + v) * 16 + hex_digit b ≡ m * 16 + (v * 16 + hex_digit b) = omega arith in
    let q = 16 ^ length bs in
    let p : m * 16 * q ≡ m * (q * 16) = omega arith in
    by _ _ (ltb 15 (hex_digit b)) (rw (e, pow-suc 16 (length bs), ← p) (hex_raised bs (m * 16) (v * 16 + hex_digit b)))
  where
    by : (p q : std.Option ℕ) (t : Bool) → p ≡ raised (m * 16 ^ suc (length bs)) q → cond t None p ≡ raised (m * 16 ^ suc (length bs)) (cond t None q)
    by p q true e = refl
    by p q false e = e

-- any other letter is no word's
pub other_kind : (n b : ℕ) (p : std.Option ℕ) → (b ≡ 119 → ⊥) → found_of (word_in n (bits_record (kind_of b) p)) ≡ Other
unfolding kind_of
other_kind n b p h = rw (ne_eqb b 119 h) (by (eqb b 111) (eqb b 114) (eqb b 112) (eqb b 113) (eqb b 115) p)
  where
    by : (t u v w x : Bool) (p : std.Option ℕ)
        → found_of (word_in n (bits_record (cond t Kind.Open (cond u Kind.Rate (cond v Kind.Pull (cond w Kind.Push (cond x Kind.Save Kind.Unknown))))) p)) ≡ Other
    by t u v w x None = refl
    by true u v w x (Some k) = refl
    by false true v w x (Some k) = refl
    by false false true w x (Some k) = refl
    by false false false true x (Some k) = refl
    by false false false false true (Some k) = refl
    by false false false false false (Some k) = refl

-- The number's letters are as, and the other digits bs.
module _ (number : ℕ) (xs bs : List ℕ) (eight : length xs ≡ 8) (rest : length bs ≡ 8) where
  pub other_number : (xs ≡ letters_of 8 number → ⊥) → found_of (word_in number (bits_record Kind.Word (hex_from 0 (xs ++ bs)))) ≡ Other
  other_number h = by (hex_from 0 (xs ++ bs)) refl
    where
      when : (w : ℕ) → hex_from 0 (xs ++ bs) ≡ Some w → (t : Bool) → eqb (w / 4294967296) number ≡ t
          → found_of (cond t (some (wrap w32 (pos (w % 4294967296)))) none) ≡ Other
      when w e true f =
          let k : w / 4294967296 ≡ number = eqb-true _ _ f in
          let l : length (xs ++ bs) ≡ 16 = omega (arith, length-append xs bs) in
          let s : xs ++ bs ≡ letters_of 16 w = letters-only (xs ++ bs) 0 w e ∙ ap (λ (n : ℕ). letters_of n w) l in
          let q : xs ++ bs ≡ letters_of 8 number ++ letters_of 8 w = s ∙ letters_parts 8 8 w ∙ ap (λ (n : ℕ). letters_of 8 n ++ letters_of 8 w) k in
          absurd (h (sym (take_at xs bs 8 eight) ∙ ap (take 8) q ∙ take_at (letters_of 8 number) (letters_of 8 w) 8 (long 8 number)))
      when w e false f = refl

      by : (p : std.Option ℕ) → hex_from 0 (xs ++ bs) ≡ p → found_of (word_in number (bits_record Kind.Word p)) ≡ Other
      by (Some w) e = when w e (eqb (w / 4294967296) number) refl
      by None e = refl

  pub this_number : number < 4294967296 → xs ≡ letters_of 8 number
      → found_of (word_in number (bits_record Kind.Word (hex_from 0 (xs ++ bs)))) ≡ eight_of (hex_from 0 bs)
  this_number small e =
      let f : hex_from 0 xs ≡ Some number = rw e (letters-again 8 0 number small ∙ ap Some (omega arith)) in
      let z : number + 0 ≡ number = omega arith in
      let g : hex_from number bs ≡ raised (number * 16 ^ length bs) (hex_from 0 bs) = rw z at (hex_raised bs number 0) in
      let q : hex_from 0 (xs ++ bs) ≡ raised (number * 4294967296) (hex_from 0 bs) =
      hex_parts 0 xs bs ∙ rw (f) (g ∙ rw rest) in
      rw q (by (hex_from 0 bs) refl)
    where
      by : (p : std.Option ℕ) → hex_from 0 bs ≡ p → found_of (word_in number (bits_record Kind.Word (raised (number * 4294967296) p))) ≡ eight_of p
      by (Some v) k =
          let a = hex_before bs 0 v k in
          let b : v / 4294967296 ≡ 0 = rw rest at a in
          let c : (number * 4294967296 + v) / 4294967296 ≡ number = omega arith in
          let d : (number * 4294967296 + v) % 4294967296 ≡ v = omega arith in
          rw (c, d, eq-eqb number number refl)
      by None k = refl

-- a line's digits in these parts: the number's first seven letters, all eight, and the word's digits
abbrev pub head_of : List ℕ → List ℕ
head_of line = take 7 (drop 1 line)

abbrev pub number_of : List ℕ → List ℕ
number_of line = head_of line ++ (get_or line 8 0 ∷ [])

abbrev pub digits_of : List ℕ → List ℕ
digits_of line = take 8 (drop 9 line)

digit_parts : (line : List ℕ) → length line ≡ 18 → take 16 (drop 1 line) ≡ number_of line ++ digits_of line
digit_parts line h =
    let l : 7 < length (drop 1 line) = simp length-drop (omega arith) in
    take-add 8 8 (drop 1 line) ∙ rw (drop-drop 8 1 line, take-suc (drop 1 line) 7 0 l, get_or-drop 1 line 7 0)

parts_long : (line : List ℕ) → length line ≡ 18
    → (length (number_of line) ≡ 8) × (length (digits_of line) ≡ 8) × (length (head_of line) ≡ 7)
parts_long line h = (
  simp (length-append, length-take, length-drop) (omega arith),
  simp (length-take, length-drop) (omega arith),
  simp (length-take, length-drop) (omega arith),
)

-- the letters are compared apart
pub letters_differ : (xs ys : List ℕ) (c l : ℕ) → length xs ≡ 7 → length ys ≡ 7 → xs ++ (c ∷ []) ≡ ys ++ (l ∷ []) → (xs ≡ ys) × (c ≡ l)
letters_differ xs ys c l a b e =
    let p : xs ≡ ys = sym (take_at xs (c ∷ []) 7 a) ∙ ap (take 7) e ∙ take_at ys (l ∷ []) 7 b in
    let q : c ∷ [] ≡ l ∷ [] = sym (drop_at xs (c ∷ []) 7 a) ∙ ap (drop 7) e ∙ drop_at ys (l ∷ []) 7 b in
    (p, cc)

not_same : (l k : List ℕ) → l ≡ k → same l k ≡ false → ⊥
not_same l k e h =
    let t : same l k ≡ true = rw e (same_self k) in
    let z : ◌≡◌ {A = ℕ} 0 1 = cc in
    omega arith

-- A whole line, by its letters. The tests of `record_of` before them went well.
module _ (number : ℕ) (line : List ℕ) (full : length line ≡ 18) (ended : get_or line 17 0 ≡ 10) where
  record_is : record_of line ≡ bits_record (kind_of (get_or line 0 0)) (hex_from 0 (number_of line ++ digits_of line))
  unfolding record_of
  record_is =
      let d : length (take 16 (drop 1 line)) ≡ 16 = simp (length-take, length-drop) (omega arith) in
      rw (eq-eqb (length line) 18 full, eq-eqb (get_or line 17 0) 10 ended, eq-eqb (length (take 16 (drop 1 line))) 16 d, ← digit_parts line full)

  pub no_word : (get_or line 0 0 ≡ 119 → ⊥) → found_of (word_in number (record_of line)) ≡ Other
  no_word h = rw record_is (other_kind number (get_or line 0 0) (hex_from 0 (number_of line ++ digits_of line)) h)

  module _ (letter : get_or line 0 0 ≡ 119) where
    is_word : record_of line ≡ bits_record Kind.Word (hex_from 0 (number_of line ++ digits_of line))
    unfolding kind_of
    is_word = record_is ∙ rw letter

    -- other letters than the number's
    other : (number_of line ≡ letters_of 8 number → ⊥) → found_of (word_in number (record_of line)) ≡ Other
    other h = let p = parts_long line full in rw is_word (other_number number (number_of line) (digits_of line) p.0 p.1 h)

    apart : number_of line ≡ letters_of 8 number → (head_of line ≡ letters_of 7 (number / 16)) × (get_or line 8 0 ≡ letter_of (number % 16))
    unfolding letters_of
    apart e =
        letters_differ (head_of line) (letters_of 7 (number / 16)) (get_or line 8 0) (letter_of (number % 16)) (parts_long line full).2
        (long 7 (number / 16)) e

    pub other_last : (get_or line 8 0 ≡ letter_of (number % 16) → ⊥) → found_of (word_in number (record_of line)) ≡ Other
    other_last h = other (λ e. h (apart e).1)

    pub other_head : (head : List ℕ) → head ≡ letters_of 7 (number / 16) → same (head_of line) head ≡ false
        → found_of (word_in number (record_of line)) ≡ Other
    other_head head g h = other (λ e. not_same (head_of line) head ((apart e).0 ∙ sym g) h)

    spelled : head_of line ≡ letters_of 7 (number / 16) → get_or line 8 0 ≡ letter_of (number % 16) → number_of line ≡ letters_of 8 number
    unfolding letters_of
    spelled q l = rw (q, l)

    pub next_word : (head : List ℕ) → head ≡ letters_of 7 (number / 16) → number < 4294967296 → get_or line 8 0 ≡ letter_of (number % 16)
        → same (head_of line) head ≡ true → found_of (word_in number (record_of line)) ≡ eight_of (hex_from 0 (digits_of line))
    next_word head g small l h =
        let p = parts_long line full in
        rw is_word (this_number number (number_of line) (digits_of line) p.0 p.1 small (spelled (same_eq (head_of line) head h ∙ g) l))

-- no word at all
pub short-line : (number : ℕ) (line : List ℕ) → (length line ≡ 18 → ⊥) → found_of (word_in number (record_of line)) ≡ Other
unfolding record_of
short-line number line h = rw (ne_eqb (length line) 18 h)

pub unended : (number : ℕ) (line : List ℕ) → length line ≡ 18 → (get_or line 17 0 ≡ 10 → ⊥) → found_of (word_in number (record_of line)) ≡ Other
unfolding record_of
unended number line e h = rw (eq-eqb (length line) 18 e, ne_eqb (get_or line 17 0) 10 h)

-- the first seven digits stay until the last one is 0 again
pub same_sixteen : (n : ℕ) → n < 4294967296 → (next_number n % 16 ≡ 0 → ⊥) → n / 16 ≡ next_number n / 16
unfolding word
same_sixteen n h k = by ((n + 1) % 4294967296) refl k
  where
    by : (m : ℕ) → (n + 1) % 4294967296 ≡ m → (m % 16 ≡ 0 → ⊥) → n / 16 ≡ m / 16
    by m e k = omega arith

-- eight digits are 32 bits
pub eight-bits : (v i : ℕ) → i ≤ 8 → v < 2 ^ (4 * i) → v < 4294967296
eight-bits v i h k =
    let m : 4 * i ≤ 32 = omega arith in
    let a : 2 ^ (4 * i) ≤ 2 ^ 32 = pow_mono m in
    omega arith
