-- Whole turns and what is left: a number is its quotient's turns and its word, and a word of the upper half reads one turn less.
use Rattle.std.proofs.Common.{◌≡◌, ℕ, zero, suc, ◌+◌, ◌-◌, ◌*◌, ◌/◌, ◌%◌, ◌^◌, ◌<◌, ◌≤◌, ℤ, pos, negsuc, ◌+ℤ◌, ◌-ℤ◌, ◌*ℤ◌, sym, ap, ◌∙◌, mod-lt, add-mul, mul-lt-mul_of_pos_right, div-add-mod', arith, pow_pos, pow-add, w32, le-ltb, lt-ltb}
use lib.Arith.{mod-mul, digits_div}
use lib.IntN.{+ℤ_assoc, +ℤ_comm, +ℤ_idr}
use mir.Syntax.{Width}
use mir.Val.{bits, hbits}
use mir.ValLaws.{to_z_pos}
use Rattle.words.specs.Words as W
use Rattle.words.specs.Words.{mod_ℤ, word, wrap, floor_div}
use Rattle.words.proofs.Remainders.{rep_mod, rep_to, rep_narrow, rep_is, rep_scaled}
use Rattle.words.proofs.Reading.{mod_below, word_fits}
use Rattle.words.proofs.Sums.{Same}
use Rattle.words.proofs.Products.{spread, regroup}

-- whole turns below a number, and what is left
pub floor_rest : (z : ℤ) (m : ℕ) → 0 < m → floor_div z m *ℤ pos m +ℤ pos (mod_ℤ z m) ≡ z
floor_rest (pos n) m h = ap pos (div-add-mod' n m)
floor_rest (negsuc n) zero h = absurd (omega arith)
floor_rest (negsuc n) (suc m) h =
    let r = mod-lt n h in
    let d = div-add-mod' n (suc m) in
    let a : suc m - suc (n % suc m) < suc (n / suc m) * suc m = omega arith in
    let e : suc (n / suc m) * suc m ≡ suc (m + n / suc m * suc m) = omega arith in
    let f : suc (m + n / suc m * suc m) - suc (suc m - suc (n % suc m)) ≡ n = omega arith in
    rw (e, lt-ltb (suc m - suc (n % suc m)) (suc (m + n / suc m * suc m)) (omega arith)) (ap negsuc f)

-- k turns of m and less than one are k turns
pub floor_is : (k : ℤ) (r m : ℕ) → r < m → floor_div (k *ℤ pos m +ℤ pos r) m ≡ k
floor_is (pos n) r m h = ap pos (digits_div n h)
floor_is (negsuc n) r zero h = absurd (omega arith)
floor_is (negsuc n) r (suc m) h =
    let e : suc n * suc m ≡ suc (m + n * suc m) = omega arith in
    let l : r < suc (m + n * suc m) = omega arith in
    let f : suc (m + n * suc m) - suc r ≡ n * suc m + (m - r) = omega arith in
    rw (e, lt-ltb r (suc (m + n * suc m)) l, f) (ap negsuc (digits_div n (omega arith)))

-- a whole number of turns has them for its quotient
pub floor_exact : (z : ℤ) (m : ℕ) → 0 < m → floor_div (z *ℤ pos m) m ≡ z
floor_exact z m h = ap (λ (y : ℤ). floor_div y m) (sym (+ℤ_idr (z *ℤ pos m))) ∙ floor_is z 0 m h

pub floor_turns : (q z : ℤ) (m : ℕ) → 0 < m → floor_div (q *ℤ pos m +ℤ z) m ≡ q +ℤ floor_div z m
floor_turns q z m h =
    let k = floor_div z m in
    ap (λ (y : ℤ). floor_div y m)
    (ap (λ (y : ℤ). q *ℤ pos m +ℤ y) (sym (floor_rest z m h)) ∙ sym (+ℤ_assoc (q *ℤ pos m) (k *ℤ pos m) (pos (mod_ℤ z m)))
    ∙ ap (λ (y : ℤ). y +ℤ pos (mod_ℤ z m)) (sym (spread k (pos m) q)))
    ∙ floor_is (q +ℤ k) (mod_ℤ z m) m (mod_below z m h)

-- y is its high word's turns and its low word
pub halves : (y : ℤ) → floor_div y (2 ^ 32) *ℤ pos (2 ^ 32) +ℤ pos (word w32 y) ≡ y
unfolding W.word
halves y = floor_rest y (2 ^ 32) (omega arith)

-- the product by the low word, divided by 2 ^ 32, and by the high word make up the whole product divided by 2 ^ 32
pub parts : (y a : ℤ) → floor_div (pos (word w32 y) *ℤ a) (2 ^ 32) +ℤ floor_div y (2 ^ 32) *ℤ a ≡ floor_div (y *ℤ a) (2 ^ 32)
parts y a =
    let H = floor_div y (2 ^ 32) in
    let L = pos (word w32 y) in
    +ℤ_comm (floor_div (L *ℤ a) (2 ^ 32)) (H *ℤ a)
    ∙ sym (floor_turns (H *ℤ a) (L *ℤ a) (2 ^ 32) (omega arith))
    ∙ ap (λ (z : ℤ). floor_div z (2 ^ 32))
    (ap (λ (z : ℤ). z +ℤ L *ℤ a) (regroup H a (pos (2 ^ 32))) ∙ sym (spread L a (H *ℤ pos (2 ^ 32))) ∙ ap (λ (z : ℤ). z *ℤ a) (halves y))

-- the two readings of a word lie a turn apart in the upper half
pub wrap-low : (w : Width) (z : ℤ) → word w z < 2 ^ hbits w → wrap w z ≡ pos (word w z)
unfolding wrap
wrap-low w z h = to_z_pos w (word w z) h

pub wrap-high : (w : Width) (z : ℤ) → 2 ^ hbits w ≤ word w z → wrap w z ≡ pos (word w z) -ℤ pos (2 ^ bits w)
unfolding wrap
wrap-high w z h =
    let b = (word_fits w z).fits in
    let e : 2 ^ bits w ≡ suc (2 ^ bits w - 1) = omega arith in
    rw (le-ltb (word w z) (2 ^ hbits w) h) (below (2 ^ bits w) (word w z) b)
  where
    below : (m n : ℕ) → n < m → negsuc (m - suc n) ≡ pos n -ℤ pos m
    below zero n l = absurd (omega arith)
    below (suc m) n l = rw (lt-ltb n (suc m) l)

-- the remainder by k m, taken by m
pub mod_low : (m k : ℕ) → 0 < m → 0 < k * m → (z : ℤ) → mod_ℤ z (k * m) % m ≡ mod_ℤ z m
mod_low m k h p z = rep_to m h z (mod_ℤ z (k * m)) (rep_narrow m k z (mod_ℤ z (k * m)) (rep_mod (k * m) p z))

-- the remainder by m k, divided by k
pub mod_high : (m k : ℕ) → 0 < m → 0 < k → (z : ℤ) → mod_ℤ z (m * k) / k ≡ mod_ℤ (floor_div z k) m
mod_high m k h p (pos n) = ap (λ (t : ℕ). t / k) (mod-mul n h p) ∙ digits_div (n / k % m) (mod-lt n p)
mod_high m k h p (negsuc n) =
    let q = n / k % m in
    let r = n % k in
    let a : q < m = mod-lt (n / k) h in
    let b : r < k = mod-lt n p in
    let u : m - suc q + suc q ≡ m = omega arith in
    let v : (m - suc q) * k + suc q * k ≡ m * k = sym (add-mul (m - suc q) (suc q) k) ∙ ap (λ (t : ℕ). t * k) u in
    let e : m * k - suc (q * k + r) ≡ (m - suc q) * k + (k - suc r) = omega arith in
    let f : k - suc r < k = omega arith in
    ap (λ (t : ℕ). (m * k - suc t) / k) (mod-mul n h p) ∙ ap (λ (t : ℕ). t / k) e ∙ digits_div (m - suc q) f

-- a number scaled by k leaves its remainder scaled by k
pub mod_scaled : (z : ℤ) (m k : ℕ) → 0 < m → 0 < k → mod_ℤ (z *ℤ pos k) (m * k) ≡ mod_ℤ z m * k
mod_scaled z m k hm hk =
    let l : mod_ℤ z m * k < m * k = mul-lt-mul_of_pos_right (mod_below z m hm) hk in
    let h : 0 < m * k = omega arith in
    sym (rep_is (m * k) h (z *ℤ pos k) (mod_ℤ z m * k) l (rep_scaled m k h z (mod_ℤ z m) (rep_mod m hm z)))

-- a number scaled by 2 ^ k in a word that is k bits wider
pub word-scaled : (v w : Width) (k : ℕ) (z : ℤ) → bits w ≡ bits v + k → word w (z *ℤ pos (2 ^ k)) ≡ word v z * 2 ^ k
unfolding word
word-scaled v w k z e =
    let f : 2 ^ bits w ≡ 2 ^ bits v * 2 ^ k = ap (λ (n : ℕ). 2 ^ n) e ∙ pow-add 2 (bits v) k in
    rw f (mod_scaled z (2 ^ bits v) (2 ^ k) (pow_pos (bits v)) (pow_pos k))

pub same-scaled : (v w : Width) (k : ℕ) {a b : ℤ} → bits w ≡ bits v + k → Same v a b → Same w (a *ℤ pos (2 ^ k)) (b *ℤ pos (2 ^ k))
same-scaled v w k {a} {b} e s = record {
  same = word-scaled v w k a e ∙ ap (λ (n : ℕ). n * 2 ^ k) s.same ∙ sym (word-scaled v w k b e);
}
