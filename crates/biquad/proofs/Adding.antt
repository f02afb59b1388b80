-- Adding a zero keeps every double but -0.0, and multiplying by 0.0 and 1.0 gives a zero and the double itself.
-- `zerosJoined f t v` is v after some such zeros, so a sum of them is followed by its two flags.
use mathlib.Core.Path.{◌≡◌, refl, sym, ap, ◌∙◌}
use mathlib.Core.Bool.{Bool, true, false, ◌&&◌, cond, beq, and-true, and_assoc, and_comm}
use Prim.Native.Nat.{ℕ, zero, suc, zero-le, ◌+◌, ◌-◌, ◌*◌, ◌<◌}
use native.Mathlib.Nat.{zero-mul, one-mul, mul-one, zero-add, add-zero, sub-zero, zero-lt-suc, mul-pos}
use borrow.Author.Tests.{lt-ltb, le-ltb}
use lib.IntN.{ℤ, pos}
use lib.Dec.{T, ltb}
use lib.Ieee.{Float, nan, inf, fin, binary64, up, down, round, sum, add, mul, of_bits, fits, unlike}
use lib.Ieee.Fits.{up_pos, down_pos}
use lib.Ieee.Scale.{finite, round_same}
use Rattle.biquad.specs.Rounded.{◌⊕◌, ◌⊗◌, nought, one}
use Rattle.biquad.specs.Zeros.{negative, zero_of, zero_added, zeros_joined, plain}
use Rattle.biquad.proofs.Exact.{kept}

pub zero-fits : (s : Bool) → T (fits binary64 (zero_of s))
unfolding fits
zero-fits s = tt

-- nothing rounds to a zero
none : (s : Bool) (n c : ℕ) → 0 < c → n ≡ 0 → round binary64 s n c ≡ zero_of s
none s n c h e = rw e (round_same binary64 s 0 c 0 1 h (zero-lt-suc 0) (simp zero-mul)) ∙ kept binary64 s 0 (pos 0) (zero-fits s)

-- ---- what a sum and a product of two numbers are
summed : (s t : Bool) (a b c : ℕ)
    → sum binary64 s a t b c
    ≡ cond (beq s t) (round binary64 s (a + b) c)
    (cond (ltb a b) (round binary64 t (b - a) c) (round binary64 (s && ltb b a) (a - b) c))
unfolding sum
summed s t a b c = refl

added : (s t : Bool) (m n : ℕ) (e d : ℤ) → fin s m e ⊕ fin t n d ≡ sum binary64 s (m * up e * down d) t (n * up d * down e)
    (down e * down d)
unfolding add
added s t m n e d = refl

multiplied : (s t : Bool) (m n : ℕ) (e d : ℤ) → fin s m e ⊗ fin t n d ≡ round binary64 (unlike s t) (m * up e * (n * up d))
    (down e * down d)
unfolding mul
multiplied s t m n e d = refl

-- ---- sums with a zero, by the magnitudes a / c and 0
sum-none : (s t : Bool) (c : ℕ) → 0 < c → sum binary64 s 0 t 0 c ≡ zero_of (s && t)
sum-none true true c h = summed true true 0 0 c ∙ none true 0 c h refl
sum-none true false c h = summed true false 0 0 c ∙ none false 0 c h refl
sum-none false true c h = summed false true 0 0 c ∙ none false 0 c h refl
sum-none false false c h = summed false false 0 0 c ∙ none false 0 c h refl

sum_right : (s t : Bool) (a c : ℕ) → 0 < a → sum binary64 s a t 0 c ≡ round binary64 s a c
sum_right true true a c p = summed true true a 0 c ∙ rw add-zero
sum_right true false a c p = summed true false a 0 c ∙ rw (le-ltb a 0 zero-le, lt-ltb 0 a p, sub-zero)
sum_right false true a c p = summed false true a 0 c ∙ rw (le-ltb a 0 zero-le, sub-zero)
sum_right false false a c p = summed false false a 0 c ∙ rw add-zero

sum_left : (s t : Bool) (a c : ℕ) → 0 < a → sum binary64 t 0 s a c ≡ round binary64 s a c
sum_left true true a c p = summed true true 0 a c ∙ rw zero-add
sum_left true false a c p = summed false true 0 a c ∙ rw (lt-ltb 0 a p, sub-zero)
sum_left false true a c p = summed true false 0 a c ∙ rw (lt-ltb 0 a p, sub-zero)
sum_left false false a c p = summed false false 0 a c ∙ rw zero-add

zeroed : (s : Bool) (e : ℤ) → T (fits binary64 (fin s 0 e)) → fin s 0 e ≡ zero_of s
zeroed s e t = sym (kept binary64 s 0 e t) ∙ none s (0 * up e) (down e) (down_pos e) (zero-mul (up e))

right_number : (s t : Bool) (m : ℕ) (e : ℤ) → T (fits binary64 (fin s m e)) → fin s m e ⊕ zero_of t ≡ zero_added t (fin s m e)
right_number s t zero e f = added s t 0 0 e (pos 0) ∙ rw (zero-mul (up e), zero-mul (down e), mul-one (down e))
    (sum-none s t (down e) (down_pos e))
right_number s t (suc m) e f =
    added s t (suc m) 0 e (pos 0)
    ∙ rw (mul-one (suc m * up e), zero-mul (down e), mul-one (down e))
    (sum_right s t (suc m * up e) (down e) (mul-pos (zero-lt-suc m) (up_pos e)) ∙ kept binary64 s (suc m) e f)

left_number : (s t : Bool) (m : ℕ) (e : ℤ) → T (fits binary64 (fin s m e)) → zero_of t ⊕ fin s m e ≡ zero_added t (fin s m e)
left_number s t zero e f =
    added t s 0 0 (pos 0) e ∙ rw (zero-mul (up e), zero-mul (down e), one-mul (down e))
    (sum-none t s (down e) (down_pos e) ∙ ap zero_of (and_comm t s))
left_number s t (suc m) e f =
    added t s 0 (suc m) (pos 0) e
    ∙ rw (mul-one (suc m * up e), zero-mul (down e), one-mul (down e))
    (sum_left s t (suc m * up e) (down e) (mul-pos (zero-lt-suc m) (up_pos e)) ∙ kept binary64 s (suc m) e f)

pub right : (v : Float) (t : Bool) → T (fits binary64 v) → v ⊕ zero_of t ≡ zero_added t v
unfolding add
right nan t f = refl
right (inf s) t f = refl
right (fin s m e) t f = right_number s t m e f

pub left : (v : Float) (t : Bool) → T (fits binary64 v) → zero_of t ⊕ v ≡ zero_added t v
unfolding add
left nan t f = refl
left (inf s) t f = refl
left (fin s m e) t f = left_number s t m e f

not_a-number : (v : Float) → v ⊕ nan ≡ nan
unfolding add
not_a-number nan = refl
not_a-number (inf s) = refl
not_a-number (fin s m e) = refl

-- ---- 1.0 times v, and 0.0 times x
plain_sign : (s : Bool) → unlike false s ≡ s
plain_sign true = refl
plain_sign false = refl

once_number : (s : Bool) (m : ℕ) (e : ℤ) → T (fits binary64 (fin s m e)) → fin false 1 (pos 0) ⊗ fin s m e ≡ fin s m e
once_number s m e f = multiplied false s 1 m (pos 0) e ∙ rw (plain_sign s, one-mul (m * up e), one-mul (down e)) (kept binary64 s m e f)

null_number : (s : Bool) (m : ℕ) (e : ℤ) → fin false 0 (pos 0) ⊗ fin s m e ≡ zero_of s
null_number s m e = multiplied false s 0 m (pos 0) e ∙ rw (plain_sign s, one-mul (down e))
    (none s (0 * (m * up e)) (down e) (down_pos e) (zero-mul (m * up e)))

pub once : (v : Float) → T (fits binary64 v) → one ⊗ v ≡ v
unfolding mul of_bits
once nan f = refl
once (inf true) f = refl
once (inf false) f = refl
once (fin s m e) f = once_number s m e f

pub null : (x : Float) → nought ⊗ x ≡ zeros_joined (finite x) (negative x) (zero_of true)
unfolding mul of_bits
null nan = refl
null (inf s) = refl
null (fin s m e) = null_number s m e

-- ---- zeros one after the other
pub whole : (v : Float) → T (fits binary64 v) → zero_added true v ≡ v
whole nan f = refl
whole (inf s) f = refl
whole (fin s zero e) f = rw and-true (sym (zeroed s e f))
whole (fin s (suc m) e) f = refl

zero_added_fits : (v : Float) (t : Bool) → T (fits binary64 v) → T (fits binary64 (zero_added t v))
zero_added_fits nan t f = f
zero_added_fits (inf s) t f = f
zero_added_fits (fin s zero e) t f = zero-fits (s && t)
zero_added_fits (fin s (suc m) e) t f = f

-- a number other than -0.0 stays
pub stays : (v : Float) (t : Bool) → T (fits binary64 v) → T (plain v) → zero_added t v ≡ v
stays nan t f p = elim p [ ]
stays (inf _) t f p = elim p [ ]
stays (fin true zero e) t f p = absurd p
stays (fin false zero e) t f p = sym (zeroed false e f)
stays (fin s (suc m) e) t f p = refl

twice : (v : Float) (t u : Bool) → zero_added u (zero_added t v) ≡ zero_added (t && u) v
twice nan t u = refl
twice (inf s) t u = refl
twice (fin s zero e) t u = ap zero_of (and_assoc s t u)
twice (fin s (suc m) e) t u = refl

-- w is v after such zeros
pub record Leaves (f t : Bool) (v w : Float) : Type 0 where
  pub is : w ≡ zeros_joined f t v

-- v by itself, 0.0 times x by itself, 0.0 times one more value, and a value to which such zeros alone are added
pub alone : (v : Float) → T (fits binary64 v) → Leaves true true v v
alone v h = record { is = sym (whole v h) }

pub none_of : (x : Float) → Leaves (finite x) (negative x) (zero_of true) (nought ⊗ x)
none_of x = record { is = null x }

pub more : {f t : Bool} {v w : Float} (x : Float) → T (fits binary64 v) → Leaves f t v w
    → Leaves (f && finite x) (t && negative x) v (w ⊕ nought ⊗ x)
unfolding add
more {f} {t} {v} {w} x h l =
    record { is = ap (λ (z : Float). z ⊕ nought ⊗ x) l.is ∙ ap (λ (z : Float). zeros_joined f t v ⊕ z) (null x) ∙ go f (finite x) }
  where
    go : (f g : Bool) → zeros_joined f t v ⊕ zeros_joined g (negative x) (zero_of true) ≡ zeros_joined (f && g) (t && negative x) v
    go true true = right (zero_added t v) (negative x) (zero_added_fits v t h) ∙ twice v t (negative x)
    go true false = not_a-number (zero_added t v)
    go false g = refl

pub onto : {f t : Bool} {w : Float} (v : Float) → T (fits binary64 v) → Leaves f t (zero_of true) w → Leaves f t v (w ⊕ one ⊗ v)
unfolding add
onto {f} {t} {w} v h l = record
    { is = ap (λ (z : Float). z ⊕ one ⊗ v) l.is ∙ ap (λ (z : Float). zeros_joined f t (zero_of true) ⊕ z) (once v h) ∙ go f }
  where
    go : (f : Bool) → zeros_joined f t (zero_of true) ⊕ v ≡ zeros_joined f t v
    go true = left v t h
    go false = refl
