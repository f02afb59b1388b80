-- Decimal digits: how many there are, and that those of a known count can be written from the last to the first.
use native.Mathlib.Omega.{arith}
use native.Mathlib.Nat.{pow-suc, pow-le-pow_right}
use mathlib.Core.Path.{◌≡◌, refl, sym, ap, ◌∙◌}
use mathlib.Core.Bool.{Bool, true, false, cond}
use mathlib.Core.List.{List, [], ◌∷◌, ◌++◌, append_assoc}
use Prim.Native.Nat.{ℕ, zero, suc, ◌+◌, ◌-◌, ◌*◌, ◌/◌, ◌%◌, ◌^◌, ◌≤◌, ◌<◌}
use lib.Dec.{ltb, leb}
use lib.IntN.{ℤ, pos, negsuc, nat_abs}
use lib.Signed.{le_z}
use lib.ListN.{length, take, drop, set, get_or, length-append, length-drop, length-set}
use lib.Seq.{drop-cons, take-suc, drop-length, take-length, length-take-le, set_at}
use mir.Syntax.{w32, w64}
use mir.Val.{SFits, to_z, of_z}
use mir.ValLaws.{to_z-of_z}
use borrow.Author.Tests.{lt-ltb, le-ltb, ltb-true, le-leb}
use Rattle.text.specs.Numbers.{spelt, decimal_of, signed_of}
use Rattle.text.specs.Writing.{overlaid}
use Rattle.text.proofs.Putting.{put-nil}

one_digit : (k n : ℕ) → n < 10 → spelt (suc k) n ≡ (48 + n % 10) ∷ []
unfolding spelt
one_digit k n h = rw (lt-ltb _ _ h) (ap (λ (x : ℕ). x ∷ []) (omega arith))

more_digits : (k n : ℕ) → 10 ≤ n → spelt (suc k) n ≡ spelt k (n / 10) ++ ((48 + n % 10) ∷ [])
unfolding spelt
more_digits k n h = rw (le-ltb _ _ h)

pub spelt-short : (k n : ℕ) → length (spelt k n) ≤ k
unfolding spelt
spelt-short zero n = omega arith
spelt-short (suc k) n = by (ltb n 10) (spelt-short k (n / 10))
  where
    by : (t : Bool) → length (spelt k (n / 10)) ≤ k → length (cond t ((48 + n) ∷ []) (spelt k (n / 10) ++ ((48 + n % 10) ∷ []))) ≤ suc k
    by true h = omega arith
    by false h = simp length-append (omega arith)

-- below 10 ^ (w + 1) there are at most w + 1 digits
pub spelt-most : (w k n : ℕ) → n < 10 ^ suc w → length (spelt k n) ≤ suc w
unfolding spelt
spelt-most w zero n high = omega arith
spelt-most zero (suc k) n high = let e = ap length (one_digit k n (omega arith)) in omega arith
spelt-most (suc w) (suc k) n high = by (ltb n 10) (spelt-most w k (n / 10) (let q = pow-suc 10 (suc w) in omega arith))
  where
    by : (t : Bool) → length (spelt k (n / 10)) ≤ suc w → length (cond t ((48 + n) ∷ []) (spelt k (n / 10) ++ ((48 + n % 10) ∷ [])))
        ≤ suc (suc w)
    by true h = omega arith
    by false h = simp length-append (omega arith)

-- from 10 ^ w up to 10 ^ (w + 1) there are w + 1 digits; below 10 there is one
pub spelt-length : (w k n : ℕ) → w < k → (0 < w → 10 ^ w ≤ n) → n < 10 ^ suc w → length (spelt k n) ≡ suc w
spelt-length w zero n room low high = absurd (omega arith)
spelt-length zero (suc k) n room low high = ap length (one_digit k n (omega arith))
spelt-length (suc w) (suc k) n room low high =
    let l : 10 ^ suc w ≤ n = low (omega arith) in
    let p = pow-suc 10 w in
    let q = pow-suc 10 (suc w) in
    ap length (more_digits k n (omega arith))
    ∙ length-append (spelt k (n / 10)) ((48 + n % 10) ∷ [])
    ∙ ap (λ (x : ℕ). x + 1) (spelt-length w k (n / 10) (omega arith) (λ z. omega arith) (omega arith))
    ∙ omega arith

-- a loop that finds the width: p is 10 ^ w, and n is at least 10 ^ (w - 1) or w is 1
module _ (n w p : ℕ) (power : p ≡ 10 ^ w) (some : 1 ≤ w) where
  pub width_fits : w ≤ 19 → (w ≡ 19 → ⊥) → p * 10 < 2 ^ 64
  width_fits h k = let m : 10 ^ w ≤ 10 ^ 18 = pow-le-pow_right {n = 10} (omega arith) {i = w} {j = 18} (omega arith) in omega arith

  pub width_on : p ≤ n → (p * 10 ≡ 10 ^ (w + 1)) × (1 < w + 1 → 10 ^ (w + 1 - 1) ≤ n)
  width_on h =
      let e : w + 1 - 1 ≡ w = omega arith in
      let q : 10 ^ w ≤ n = omega arith in
      (ap (λ (k : ℕ). k * 10) power ∙ sym (pow-suc 10 w) ∙ ap (λ (k : ℕ). 10 ^ k) (omega arith), λ z. rw e q)

  pub width-most : w ≡ 19 → p ≤ n → n < 2 ^ 64 → 20 ≡ length (decimal_of n)
  width-most e h k =
      let q : p ≡ 10 ^ 19 = power ∙ ap (λ (j : ℕ). 10 ^ j) e in
      sym (spelt-length 19 20 n (omega arith) (λ z. omega arith) (omega arith))

  pub width_is : w ≤ 19 → (1 < w → 10 ^ (w - 1) ≤ n) → n < p → w ≡ length (decimal_of n)
  width_is h low k =
      let e : suc (w - 1) ≡ w = omega arith in
      let q : n < 10 ^ suc (w - 1) = rw e (omega arith) in
      sym (spelt-length (w - 1) 20 n (omega arith) (λ z. low (omega arith)) q ∙ e)

-- the last k digits
unfoldable pub last_of : ℕ → ℕ → List ℕ
last_of zero n = []
last_of (suc k) n = last_of k (n / 10) ++ ((48 + n % 10) ∷ [])

pub spelt-last : (k n : ℕ) → spelt k n ≡ last_of (length (spelt k n)) n
unfolding spelt last_of
spelt-last zero n = refl
spelt-last (suc k) n = by (ltb n 10) refl (spelt-last k (n / 10))
  where
    by : (t : Bool) → ltb n 10 ≡ t → spelt k (n / 10) ≡ last_of (length (spelt k (n / 10))) (n / 10)
        → cond t ((48 + n) ∷ []) (spelt k (n / 10) ++ ((48 + n % 10) ∷ []))
        ≡ last_of (length (cond t ((48 + n) ∷ []) (spelt k (n / 10) ++ ((48 + n % 10) ∷ [])))) n
    by true e f =
        let h = ltb-true n 10 e in
        ap (λ (x : ℕ). x ∷ []) (omega arith)
    by false e f =
        let m : length (spelt k (n / 10) ++ ((48 + n % 10) ∷ []))
        ≡ suc (length (spelt k (n / 10))) = length-append (spelt k (n / 10)) ((48 + n % 10) ∷ []) ∙ omega arith in
        rw m (ap (λ (l : List ℕ). l ++ ((48 + n % 10) ∷ [])) f)

-- lists that end alike begin alike
snoc_same : (xs ys : List ℕ) (a b : ℕ) → xs ++ (a ∷ []) ≡ ys ++ (b ∷ []) → (xs ≡ ys) × (a ≡ b)
snoc_same [] [] a b e = (refl, cc)
snoc_same [] (y ∷ []) a b e = absurd (let z : ◌≡◌ {A = ℕ} 1 2 = ap length e in omega arith)
snoc_same [] (y ∷ z ∷ ys) a b e = absurd (let n : 1 ≡ length ((y ∷ z ∷ ys) ++ (b ∷ [])) = ap length e in omega
    (arith, length-append (y ∷ z ∷ ys) (b ∷ [])))
snoc_same (x ∷ xs) [] a b e = absurd (let n : length ((x ∷ xs) ++ (a ∷ []))
    ≡ 1 = ap length e in omega (arith, length-append (x ∷ xs) (a ∷ [])))
snoc_same (x ∷ xs) (y ∷ ys) a b e =
    let h : x ≡ y = cc in
    let t : xs ++ (a ∷ []) ≡ ys ++ (b ∷ []) = cc in
    let u = snoc_same xs ys a b t in
    (ap (λ (k : List ℕ). x ∷ k) u.0 ∙ ap (λ (k : ℕ). k ∷ ys) h, u.1)

-- a buffer that is filled from the end: the digits from j on stand at i, and those before are the last j of what is left
pub record Filling (o ds : List ℕ) (at : ℕ) (o' : List ℕ) (left i : ℕ) : Type 0 where
  pub low : at ≤ i
  pub high : i ≤ at + length ds
  pub same_length : length o' ≡ length o
  pub text : o' ≡ overlaid o i (drop (i - at) ds)
  pub rest : last_of (i - at) left ≡ take (i - at) ds

pub filling_start : (o ds : List ℕ) (at n : ℕ) → at + length ds ≤ length o → ds ≡ last_of (length ds) n
    → Filling o ds at o n (at + length ds)
unfolding overlaid
filling_start o ds at n h e =
    let m : at + length ds - at ≡ length ds = omega arith in
    record {
      low = omega arith;
      high = omega arith;
      same_length = refl;
      text = rw (m, drop-length ds) (put-nil o (at + length ds));
      rest = rw (m, take-length ds) (sym e);
    }

-- a byte in front of what was put
put_front : (o : List ℕ) (i b : ℕ) (bs : List ℕ) → suc i + length bs ≤ length o → set (overlaid o (suc i) bs) i b ≡ overlaid o i (b ∷ bs)
unfolding overlaid
put_front o i b bs h =
    let t : take (suc i) o ≡ take i o ++ (get_or o i 0 ∷ []) = take-suc o i 0 (omega arith) in
    let n : length (take i o) ≡ i = length-take-le i o (omega arith) in
    let m : suc i + length bs ≡ i + suc (length bs) = omega arith in
    rw (t, m, append_assoc) (set_at (take i o) (get_or o i 0) (bs ++ drop (i + suc (length bs)) o) b i n)

pub filling_on : (o ds : List ℕ) (at : ℕ) (o' : List ℕ) (left i b : ℕ) → at + length ds ≤ length o → at < i
    → Filling o ds at o' left i → b ≡ 48 + left % 10
    → Filling o ds at (set o' (i - 1) b) (left / 10) (i - 1)
unfolding last_of
filling_on o ds at o' left i b room h f e =
    let j = i - 1 - at in
    let s : i - at ≡ suc j = omega arith in
    let inside : j < length ds = omega arith in
    let r : last_of j (left / 10) ++ ((48 + left % 10) ∷ []) ≡ take j ds ++ (get_or ds j 0 ∷ []) =
    ap (λ (k : ℕ). last_of k left) (sym s) ∙ f.rest ∙ ap (λ (k : ℕ). take k ds) s ∙ take-suc ds j 0 inside in
    let u = snoc_same (last_of j (left / 10)) (take j ds) (48 + left % 10) (get_or ds j 0) r in
    let d : drop j ds ≡ b ∷ drop (i - at) ds =
    drop-cons ds j 0 inside ∙ ap (λ (x : ℕ). x ∷ drop (suc j) ds) (sym u.1 ∙ sym e) ∙ ap (λ (k : ℕ). b ∷ drop k ds) (sym s) in
    let q : suc (i - 1) ≡ i = omega arith in
    let l : length (drop (i - at) ds) ≡ at + length ds - i = length-drop (i - at) ds ∙ omega arith in
    record {
      low = omega arith;
      high = omega (arith, f.high);
      same_length = length-set o' (i - 1) b ∙ f.same_length;
      text = ap (λ (x : List ℕ). set x (i - 1) b) (f.text ∙ ap (λ (k : ℕ). overlaid o k (drop (i - at) ds)) (sym q))
          ∙ put_front o (i - 1) b (drop (i - at) ds) (omega (arith, f.high)) ∙ ap (overlaid o (i - 1)) (sym d);
      rest = u.0;
    }

pub filling_done : (o ds : List ℕ) (at : ℕ) (o' : List ℕ) (left i : ℕ) → i ≤ at → Filling o ds at o' left i → o' ≡ overlaid o at ds
filling_done o ds at o' left i h f =
    let e : i ≡ at = omega (arith, f.low) in
    let z : at - at ≡ 0 = omega arith in
    f.text ∙ ap (λ (k : ℕ). overlaid o k (drop (k - at) ds)) e ∙ rw z refl

-- a number by its sign and its size, as they are told of the number that its bits are read as
module _ (v : ℤ) (fits : SFits w64 v) (size : ℕ) (sized : size ≡ nat_abs (to_z w64 (of_z w64 v))) where
  pub from_zero : le_z (pos 0) (to_z w64 (of_z w64 v)) ≡ true → decimal_of size ≡ signed_of v
  from_zero h = ap decimal_of (rw (to_z-of_z w64 v fits) at sized) ∙ by v (rw (to_z-of_z w64 v fits) at h)
    where
      by : (z : ℤ) → le_z (pos 0) z ≡ true → decimal_of (nat_abs z) ≡ signed_of z
      by (pos n) e = refl
      by (negsuc n) e = absurd (let z : ◌≡◌ {A = ℕ} 0 1 = cc in omega arith)

  pub below-zero : le_z (pos 0) (to_z w64 (of_z w64 v)) ≡ false → 45 ∷ decimal_of size ≡ signed_of v
  below-zero h = ap (λ (k : ℕ). 45 ∷ decimal_of k) (rw (to_z-of_z w64 v fits) at sized) ∙ by v (rw (to_z-of_z w64 v fits) at h)
    where
      by : (z : ℤ) → le_z (pos 0) z ≡ false → 45 ∷ decimal_of (nat_abs z) ≡ signed_of z
      by (pos n) e = let g : leb 0 n ≡ true = le-leb 0 n (omega arith) in absurd (let z : ◌≡◌ {A = ℕ} 0 1 = cc in omega arith)
      by (negsuc n) e = refl

-- a number of 32 bits has at most 10 digits, and with its sign at most 11 bytes; one of 64 bits at most 20 bytes
pub decimal_most : (n : ℕ) → n < 2 ^ 32 → length (decimal_of n) ≤ 10
decimal_most n h = spelt-most 9 20 n (omega arith)

pub signed-most : (v : ℤ) → SFits w32 v → length (signed_of v) ≤ 11
signed-most (pos n) f = omega (arith, decimal_most n (omega (arith, f.sfits)))
signed-most (negsuc n) f = omega (arith, decimal_most (suc n) (omega (arith, f.sfits)))

pub signed_most64 : (v : ℤ) → SFits w64 v → length (signed_of v) ≤ 20
signed_most64 (pos n) f = omega (arith, spelt-short 20 n)
signed_most64 (negsuc n) f = omega (arith, spelt-most 18 20 (suc n) (omega (arith, f.sfits)))
