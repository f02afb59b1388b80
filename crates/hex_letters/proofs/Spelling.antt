-- A number's letters read as it, and no others do. Digits are read from the first on and spelled from the last on: `hex-last` goes between.
use native.Mathlib.Omega.{arith}
use native.Mathlib.Nat.{add-zero, add-suc, pow-suc, div-div-eq-div-mul, mul_comm}
use mathlib.Core.Path.{◌≡◌, refl, sym, ap, ◌∙◌}
use mathlib.Core.Bool.{Bool, true, false, cond}
use mathlib.Core.List.{List, [], ◌∷◌, ◌++◌, append_assoc, append-nil}
use Prim.Native.Nat.{ℕ, zero, suc, ◌+◌, ◌-◌, ◌*◌, ◌/◌, ◌%◌, ◌^◌, ◌≤◌, ◌<◌}
use lib.Dec.{leb, ltb}
use lib.ListN.{length, drop, set, length-append, length-set, drop_of_length-le}
use lib.Seq.{drop-cons, drop-set-lt, get_or-set_same}
use borrow.Author.Tests.{lt-ltb, le-ltb, ltb-true, ltb-false, le-leb, lt-leb, leb-true}
use Rattle.text.specs.Hex.{hex_digit, hex_from}
use Rattle.std.specs.Prelude as std
use Rattle.std.specs.Prelude.{Some, None}
use Rattle.hex_letters.specs.Letters.{letter_of, letters_of}

pub digit_again : (d : ℕ) → d < 16 → hex_digit (letter_of d) ≡ d
unfolding letter_of
digit_again d h = by (ltb d 10) refl
  where
    by : (t : Bool) → ltb d 10 ≡ t → hex_digit (cond t (48 + d) (97 + (d - 10))) ≡ d
    by true e =
        let k = ltb-true d 10 e in
        let m : 48 + d - 48 ≡ d = omega arith in
        rw (le-ltb (48 + d) 48 (omega arith), le-leb (48 + d) 57 (omega arith)) m
    by false e =
        let k = ltb-false d 10 e in
        let m : 97 + (d - 10) - 97 + 10 ≡ d = omega arith in
        rw (
          le-ltb (97 + (d - 10)) 48 (omega arith),
          lt-leb (97 + (d - 10)) 57 (omega arith),
          le-ltb (97 + (d - 10)) 97 (omega arith),
          le-leb (97 + (d - 10)) 102 (omega arith),
        ) m

pub long : (k n : ℕ) → length (letters_of k n) ≡ k
unfolding letters_of
long zero n = refl
long (suc k) n = length-append (letters_of k (n / 16)) (letter_of (n % 16) ∷ []) ∙ omega (arith, long k (n / 16))

-- the digits after those that were read
abbrev pub onto : std.Option ℕ → List ℕ → std.Option ℕ
onto (Some v) bs = hex_from v bs
onto None bs = None

pub hex_parts : (v : ℕ) (xs bs : List ℕ) → hex_from v (xs ++ bs) ≡ onto (hex_from v xs) bs
unfolding hex_from
hex_parts v [] bs = refl
hex_parts v (x ∷ xs) bs = by _ _ (ltb 15 (hex_digit x)) (hex_parts (v * 16 + hex_digit x) xs bs)
  where
    by : (p q : std.Option ℕ) (t : Bool) → p ≡ onto q bs → cond t None p ≡ onto (cond t None q) bs
    by p q true e = refl
    by p q false e = e

pub letters-again : (k v n : ℕ) → n < 16 ^ k → hex_from v (letters_of k n) ≡ Some (v * 16 ^ k + n)
unfolding hex_from letters_of
letters-again zero v n h = ap Some (omega arith)
letters-again (suc k) v n h =
    let p = pow-suc 16 k in
    let d : n % 16 < 16 = omega arith in
    let e : (v * 16 ^ k + n / 16) * 16 + n % 16 ≡ v * (16 ^ k * 16) + n = omega arith in
    hex_parts v (letters_of k (n / 16)) (letter_of (n % 16) ∷ [])
    ∙ rw (letters-again k v (n / 16) (omega arith), digit_again (n % 16) d, le-ltb 15 (n % 16) (omega arith)) (ap Some (rw p e))

-- Letters written from the last on: those before place i are yet to come.
pub letter_on : (whole l : List ℕ) (left i b : ℕ) → 0 < i → i ≤ length l → b ≡ letter_of (left % 16) → whole ≡ letters_of i left ++ drop i l
    → whole ≡ letters_of (i - 1) (left / 16) ++ drop (i - 1) (set l (i - 1) b)
unfolding letters_of
letter_on whole l left zero b p h e g = absurd (omega arith)
letter_on whole l left (suc j) b p h e g =
    let n : length (set l j b) ≡ length l = simp length-set in
    let i : j < length (set l j b) = omega arith in
    let s : drop j (set l j b) ≡ b ∷ drop (suc j) l =
    drop-cons (set l j b) j 0 i
    ∙ rw (get_or-set_same l j b 0 (omega arith), drop-set-lt (suc j) l j b (omega arith)) in
    let m : suc j - 1 ≡ j = omega arith in
    g ∙ append_assoc (letters_of j (left / 16)) (letter_of (left % 16) ∷ []) (drop (suc j) l) ∙ rw (m, s, e)

pub letters-start : (k n : ℕ) (l : List ℕ) → length l ≡ k → letters_of k n ≡ letters_of k n ++ drop k l
letters-start k n l e =
    let h : length l ≤ k = omega arith in
    let z : drop k l ≡ [] = drop_of_length-le l h in
    sym (rw z (append-nil (letters_of k n)))

pub letters_end : (whole l : List ℕ) (left i : ℕ) → i ≤ 0 → whole ≡ letters_of i left ++ drop i l → l ≡ whole
unfolding letters_of
letters_end whole l left zero h e = sym e
letters_end whole l left (suc i) h e = absurd (omega arith)

-- a digit's letter is the only one
pub digit_only : (b : ℕ) → hex_digit b ≤ 15 → b ≡ letter_of (hex_digit b)
unfolding letter_of
digit_only b q = by (ltb b 48) refl (leb b 57) refl (ltb b 97) refl (leb b 102) refl q
  where
    by : (s : Bool) → ltb b 48 ≡ s → (t : Bool) → leb b 57 ≡ t → (u : Bool) → ltb b 97 ≡ u → (v : Bool) → leb b 102 ≡ v
        → (let d = cond s 16 (cond t (b - 48) (cond u 16 (cond v (b - 97 + 10) 16))) in d ≤ 15 → b ≡ cond (ltb d 10) (48 + d) (97 + (d - 10)))
    by true f t g u h v i k = absurd (omega arith)
    by false f true g u h v i k =
        let l = ltb-false b 48 f in
        let m = leb-true b 57 g in
        rw (lt-ltb (b - 48) 10 (omega arith)) (omega arith)
    by false f false g true h v i k = absurd (omega arith)
    by false f false g false h true i k =
        let l = ltb-false b 97 h in
        let m = leb-true b 102 i in
        rw (le-ltb (b - 97 + 10) 10 (omega arith)) (omega arith)
    by false f false g false h false i k = absurd (omega arith)

-- j digits and the k after them
pub letters_parts : (j k n : ℕ) → letters_of (j + k) n ≡ letters_of j (n / 16 ^ k) ++ letters_of k n
unfolding letters_of
letters_parts j zero n = let e : n / 1 ≡ n = omega arith in rw (add-zero, e) (sym (append-nil (letters_of j n)))
letters_parts j (suc k) n =
    let e : n / 16 / 16 ^ k ≡ n / 16 ^ suc k = div-div-eq-div-mul n 16 (16 ^ k) ∙ ap (λ (m : ℕ). n / m) (rw (pow-suc 16 k) (mul_comm 16 (16 ^ k))) in
    ap (λ (m : ℕ). letters_of m n) (add-suc j k)
    ∙ ap (λ (l : List ℕ). l ++ (letter_of (n % 16) ∷ [])) (letters_parts j k (n / 16))
    ∙ append_assoc (letters_of j (n / 16 / 16 ^ k)) (letters_of k (n / 16)) (letter_of (n % 16) ∷ []) ∙ rw e

-- what was read before the last digits
pub hex_before : (bs : List ℕ) (u v : ℕ) → hex_from u bs ≡ Some v → v / 16 ^ length bs ≡ u
unfolding hex_from
hex_before [] u v e = let p : u ≡ v = cc in omega arith
hex_before (b ∷ bs) u v e = by (ltb 15 (hex_digit b)) refl e (hex_before bs (u * 16 + hex_digit b) v)
  where
    by : (t : Bool) → ltb 15 (hex_digit b) ≡ t → cond t None (hex_from (u * 16 + hex_digit b) bs) ≡ Some v
        → (hex_from (u * 16 + hex_digit b) bs ≡ Some v → v / 16 ^ length bs ≡ u * 16 + hex_digit b) → v / 16 ^ length (b ∷ bs) ≡ u
    by true g k again = absurd (let z : ◌≡◌ {A = ℕ} 0 1 = cc in omega arith)
    by false g k again =
        let q = 16 ^ length bs in
        let i = again k in
        let d = ltb-false 15 (hex_digit b) g in
        let m : v / q / 16 ≡ u = omega arith in
        ap (λ (n : ℕ). v / n) (pow-suc 16 (length bs)) ∙ sym (div-div-eq-div-mul v q 16) ∙ m

pub letters-only : (bs : List ℕ) (u v : ℕ) → hex_from u bs ≡ Some v → bs ≡ letters_of (length bs) v
unfolding hex_from letters_of
letters-only [] u v e = refl
letters-only (b ∷ bs) u v e =
    by (ltb 15 (hex_digit b)) refl e (hex_before bs (u * 16 + hex_digit b) v) (letters-only bs (u * 16 + hex_digit b) v)
  where
    by : (t : Bool) → ltb 15 (hex_digit b) ≡ t → cond t None (hex_from (u * 16 + hex_digit b) bs) ≡ Some v
        → (hex_from (u * 16 + hex_digit b) bs ≡ Some v → v / 16 ^ length bs ≡ u * 16 + hex_digit b)
        → (hex_from (u * 16 + hex_digit b) bs ≡ Some v → bs ≡ letters_of (length bs) v) → b ∷ bs ≡ letters_of (suc (length bs)) v
    by true g k before rest = absurd (let z : ◌≡◌ {A = ℕ} 0 1 = cc in omega arith)
    by false g k before rest =
        let d = ltb-false 15 (hex_digit b) g in
        let i = before k in
        let m : v / 16 ^ length bs % 16 ≡ hex_digit b = omega arith in
        let n : suc (length bs) ≡ 1 + length bs = omega arith in
        let f : letters_of (suc (length bs)) v ≡ letter_of (v / 16 ^ length bs % 16) ∷ letters_of (length bs) v =
        ap (λ (m : ℕ). letters_of m v) n ∙ letters_parts 1 (length bs) v in
        sym (f ∙ rw (m, ← digit_only b d, ← rest k))
