-- A double from -0.5 to 0 times 2 ^ 33 is exact, and its whole part gives the nearest whole number of 2 ^ -32.
use Rattle.std.proofs.Common.{◌≡◌, ℕ, zero, suc, ◌+◌, ◌-◌, ◌*◌, ◌/◌, ◌%◌, ◌^◌, ◌<◌, ◌≤◌, min, Bool, true, false, not, ◌&&◌, ◌||◌, T, eqb, ltb, leb, ℤ, pos, negsuc, ◌-ℤ◌, neg_ℤ, sym, refl, ap, ◌∙◌, subst, true≢false, lt_of_lt_of_le, mul-le-mul_right, zero-lt-suc, mul_assoc, mul_comm, mul-pos, one-mul, zero-mul, mul-one, mul_right_comm, not-le_of_lt, le_of_mul-le-mul_right, arith, eqb→eq, ltb→lt, lt→ltb, leb→le, pow_pos, pow_mono, pow-add, shl_lt, w64, SFits, to_z, of_z}
use native.Mathlib.Nat.{div-div-eq-div-mul, add-div_right, div-le_of_le-mul, zero-div}
use lib.Dec.{nleb→lt}
use lib.Pow.{pow-lt}
use lib.IntN.{+ℤ_idl}
use mir.Syntax.{Width}
use mir.Val.{hbits}
use mir.ValLaws.{to_z-of_z}
use lib.Ieee.{Float, nan, inf, fin, binary64, up, down, neg, mul, round, le, lt, eq, fits, to_unsigned}
use lib.Ieee.Fits.{and_l, and_r, up_pos, down_pos}
use lib.Ieee.Exact.{HasValue, round_exact}
use lib.Ieee.Nearest.{div_same}
use lib.Ieee.Positive.{num, den}
use Rattle.adapters.specs.Quantize.{plus_zero, minus_half, nearest_up, in_range}

-- twice the size of a in units of 2 ^ -32
unfoldable pub doubled : Float → Float
doubled a = mul binary64 (neg a) (fin false 1 (pos 33))

-- what the code asks and gets
pub record Whole (a : Float) : Type 0 where
  pub above : T (lt (fin true 1 (pos 0)) (doubled a))
  pub under : T (lt (doubled a) (fin false 1 (pos 64)))
  pub cut : to_unsigned 64 (doubled a) ≡ num a * 2 ^ 33 / den a
  pub small : num a * 2 ≤ den a

or_split : (a b : Bool) (X : Type 0) → (T a → X) → (T b → X) → T (a || b) → X
or_split true b X f g t = f tt
or_split false b X f g t = g t

at_least_half : (m : ℕ) (e : ℤ) → T (le minus_half (fin true m e)) → m * up e * 2 ≤ down e
unfolding le lt eq
at_least_half m e h =
    or_split (ltb (m * up e * 2) (1 * 1 * down e)) (eqb (1 * 1 * down e) (m * up e * 2) && true) (m * up e * 2 ≤ down e)
    (λ t. let k : m * up e * 2 < 1 * 1 * down e = ltb→lt (m * up e * 2) (1 * 1 * down e) t in omega arith)
    (λ t. let d = 1 * 1 * down e in let k : d ≡ m * up e * 2 = eqb→eq d (m * up e * 2) (and_l (eqb d (m * up e * 2)) true t) in omega arith)
    h

no_product : (m u : ℕ) → 0 < u → m * u ≡ 0 → m ≡ 0
no_product zero u p h = refl
no_product (suc m) u p h = let k : 0 < suc m * u = mul-pos (zero-lt-suc m) p in absurd (omega arith)

pub at_most-none : (m : ℕ) (e : ℤ) → T (le (fin false m e) plus_zero) → m ≡ 0
unfolding le lt eq
at_most-none m e h =
    no_product m (up e) (up_pos e)
    (or_split (ltb (m * up e * 1) (0 * 1 * down e)) (eqb (m * up e * 1) (0 * 1 * down e) && true) (m * up e ≡ 0)
    (λ t. let k : m * up e * 1 < 0 * 1 * down e = ltb→lt (m * up e * 1) (0 * 1 * down e) t in absurd (omega arith))
    (λ t. let n = m * up e * 1 in let z = 0 * 1 * down e in let k : n ≡ z = eqb→eq n z (and_l (eqb n z) true t) in omega arith)
    h)

-- ---- the product is exact

down_fits : (s : Bool) (m : ℕ) (e : ℤ) → T (fits binary64 (fin s (suc m) e)) → (suc m < 2 ^ 53) × (down e ≤ 2 ^ 1074)
unfolding fits
down_fits s m e t =
    let a = eqb (suc m % 2) 1 in let b = ltb (suc m) (2 ^ 53) in
    let c = leb (down e) (2 ^ 1074) in let d = ltb (suc m * up e) (2 ^ 1024 * down e) in
    let abc = and_l (a && b && c) d t in
    (ltb→lt (suc m) (2 ^ 53) (and_r a b (and_l (a && b) c abc)), leb→le (down e) (2 ^ 1074) (and_r (a && b) c abc))

regroup : (q a b c : ℕ) → a * b ≡ c → q * a * (b * 1) ≡ q * c
regroup q a b c h = ap (λ (x : ℕ). q * a * x) (mul-one b) ∙ mul_assoc q a b ∙ ap (λ (x : ℕ). q * x) h

gathered : (q a b c : ℕ) → a * b ≡ c → q * 1 * (1 * a) * b ≡ q * c
gathered q a b c h =
    ap (λ (x : ℕ). x * (1 * a) * b) (mul-one q) ∙ ap (λ (x : ℕ). q * x * b) (one-mul a) ∙ mul_assoc q a b ∙ ap (λ (x : ℕ). q * x) h

nothing : (a b c d : ℕ) → 0 * a * b * c ≡ 0 * 2 ^ 0 * d
nothing a b c d =
    ap (λ (x : ℕ). x * b * c) (zero-mul a) ∙ ap (λ (x : ℕ). x * c) (zero-mul b) ∙ zero-mul c
    ∙ sym (ap (λ (x : ℕ). x * d) (zero-mul (2 ^ 0)) ∙ zero-mul d)

no_more : (k : ℕ) → 2 ^ suc k ≤ 2 ^ 1074 → suc k ≤ 1074
no_more k h = go (leb (suc k) 1074) refl
  where
    go : (b : Bool) → leb (suc k) 1074 ≡ b → suc k ≤ 1074
    go true e = leb→le (suc k) 1074 (subst T (sym e) tt)
    go false e = absurd (not-le_of_lt (pow-lt (nleb→lt (suc k) 1074 (subst (λ (b : Bool). T (not b)) (sym e) tt))) h)

exact : (s t : Bool) (m : ℕ) (e : ℤ) → T (fits binary64 (fin s m e)) → m * up e * 2 ≤ down e
    → HasValue (round binary64 t (m * up e * (1 * 2 ^ 33)) (down e * 1)) t (m * up e * (1 * 2 ^ 33)) (down e * 1)
exact s t zero e f h =
    round_exact binary64 t (0 * up e * (1 * 2 ^ 33)) (down e * 1) 0 0 (let d = down_pos e in omega arith) (pow_pos 53) (pow_pos 2098)
    (nothing (up e) (1 * 2 ^ 33) (2 ^ 1074) (down e * 1))
exact s t (suc m) (pos k) f h =
    let p : 0 < suc m * 2 ^ k = mul-pos (zero-lt-suc m) (pow_pos k) in absurd (omega arith)
exact s t (suc m) (negsuc k) f h =
    let g = down_fits s m (negsuc k) f in
    let few : suc k ≤ 1074 = no_more k g.1 in
    let j = 1107 - suc k in
    let jk : j + suc k ≡ 1107 = omega arith in
    let p : 2 ^ j * 2 ^ suc k ≡ 2 ^ 1107 = sym (pow-add 2 j (suc k)) ∙ ap (λ (x : ℕ). 2 ^ x) jk in
    let room : 53 + j ≤ 2098 = omega arith in
    round_exact binary64 t (suc m * 1 * (1 * 2 ^ 33)) (2 ^ suc k * 1) (suc m) j
    (mul-pos (pow_pos (suc k)) (pow_pos 0))
    g.0
    (lt_of_lt_of_le (shl_lt 53 j g.0) (pow_mono room))
    (gathered (suc m) (2 ^ 33) (2 ^ 1074) (2 ^ 1107) (sym (pow-add 2 33 1074)) ∙ sym (regroup (suc m) (2 ^ j) (2 ^ suc k) (2 ^ 1107) p))

-- ---- what a value in range gives

cut_of : (a c n d : ℕ) → 0 < c → 0 < d → a * d ≡ n * c → n ≤ 2 ^ 32 * d → a ≤ 2 ^ 32 * c
cut_of a c n d p q e h =
    le_of_mul-le-mul_right (subst (λ (x : ℕ). x ≤ 2 ^ 32 * c * d) (sym e)
    (subst (λ (x : ℕ). n * c ≤ x) (mul_right_comm (2 ^ 32) d c) (mul-le-mul_right c h))) q

record Fine (x : Float) (n d : ℕ) : Type 0 where
  above : T (lt (fin true 1 (pos 0)) x)
  under : T (lt x (fin false 1 (pos 64)))
  cut : to_unsigned 64 x ≡ n / d

uncapped : (a c : ℕ) → a < c → min a (c - 1) ≡ a
uncapped a c h = omega arith

fine : (x : Float) (n d : ℕ) → 0 < d → n ≤ 2 ^ 32 * d → HasValue x false n d → Fine x n d
unfolding lt to_unsigned
fine nan n d p h v = absurd v
fine (inf s) n d p h v = absurd v
fine (fin true m e) n d p h v = absurd (true≢false v.0)
fine (fin false m e) n d p h v =
    let q = down_pos e in
    let b = cut_of (m * up e) (down e) n d q p v.1 h in
    let same : m * up e / down e ≡ n / d = div_same (m * up e) (down e) n d q p v.1 in
    let low : n / d ≤ 2 ^ 32 = div-le_of_le-mul d (subst (λ (x : ℕ). n ≤ x) (mul_comm (2 ^ 32) d) h) in
    let k : 0 < 1 * 1 * down e + m * up e * 1 = omega arith in
    let l : m * up e * 1 < 1 * 2 ^ 64 * down e = omega arith in
    record {
      above = lt→ltb 0 (1 * 1 * down e + m * up e * 1) k;
      under = lt→ltb (m * up e * 1) (1 * 2 ^ 64 * down e) l;
      cut = uncapped (m * up e / down e) (2 ^ 64) (omega arith) ∙ same;
    }

fine_zero : (x : Float) (n d : ℕ) → 0 < d → n ≡ 0 → HasValue x true n d → Fine x n d
unfolding lt to_unsigned
fine_zero nan n d p h v = absurd v
fine_zero (inf s) n d p h v = absurd v
fine_zero (fin false m e) n d p h v = absurd (true≢false (sym v.0))
fine_zero (fin true m e) n d p h v =
    let q = down_pos e in
    let z : m * up e ≡ 0 = no_product (m * up e) d p (v.1 ∙ ap (λ (x : ℕ). x * down e) h ∙ zero-mul (down e)) in
    let k : m * up e * 1 < 1 * 1 * down e = omega arith in
    let l : 0 < m * up e * 1 + 1 * 2 ^ 64 * down e = omega arith in
    record {
      above = lt→ltb (m * up e * 1) (1 * 1 * down e) k;
      under = lt→ltb 0 (m * up e * 1 + 1 * 2 ^ 64 * down e) l;
      cut = sym (ap (λ (x : ℕ). x / d) h ∙ zero-div d);
    }

-- ---- together

same_cut : (m u d : ℕ) → m * u * (1 * 2 ^ 33) / (d * 1) ≡ m * u * 2 ^ 33 / d
same_cut m u d = ap (λ (x : ℕ). m * u * (1 * 2 ^ 33) / x) (mul-one d)

pub nowhere : (s : Bool) → T (in_range (inf s)) → ⊥
unfolding le lt eq
nowhere true h = h
nowhere false h = h

pub nowhere_nan : T (in_range nan) → ⊥
unfolding le lt eq
nowhere_nan h = h

pub whole : (a : Float) → T (fits binary64 a) → T (in_range a) → Whole a
unfolding doubled neg mul
whole nan f h = absurd (nowhere_nan h)
whole (inf s) f h = absurd (nowhere s h)
whole (fin true m e) f h =
    let small = at_least_half m e (and_l (le minus_half (fin true m e)) (le (fin true m e) plus_zero) h) in
    let d = down_pos e in
    let v = fine (doubled (fin true m e)) (m * up e * (1 * 2 ^ 33)) (down e * 1) (omega arith) (omega arith)
    (exact true false m e f small) in
    record { above = v.above; under = v.under; cut = v.cut ∙ same_cut m (up e) (down e); small = small }
whole (fin false m e) f h =
    let z = at_most-none m e (and_r (le minus_half (fin false m e)) (le (fin false m e) plus_zero) h) in
    let d = down_pos e in
    let none : m * up e ≡ 0 = ap (λ (x : ℕ). x * up e) z ∙ zero-mul (up e) in
    let small : m * up e * 2 ≤ down e = omega arith in
    let v = fine_zero (doubled (fin false m e)) (m * up e * (1 * 2 ^ 33)) (down e * 1) (omega arith) (omega arith)
    (exact false true m e f small) in
    record { above = v.above; under = v.under; cut = v.cut ∙ same_cut m (up e) (down e); small = small }

-- ---- from the whole part of twice the size to the nearest

pub halved : (n d : ℕ) → 0 < d → (n * 2 ^ 33 / d + 1) / 2 ≡ nearest_up (n * 2 ^ 32) d
halved n d p =
    ap (λ (x : ℕ). x / 2) (sym (add-div_right (n * 2 ^ 33) p))
    ∙ div-div-eq-div-mul (n * 2 ^ 33 + d) d 2
    ∙ ap (λ (x : ℕ). x / (d * 2)) (let e : n * 2 ^ 33 + d ≡ 2 * (n * 2 ^ 32) + d = omega arith in e)
    ∙ ap (λ (x : ℕ). (2 * (n * 2 ^ 32) + d) / x) (mul_comm d 2)

pub few : (n d : ℕ) → 0 < d → n * 2 ≤ d → n * 2 ^ 33 / d ≤ 2 ^ 32
few n d p h = div-le_of_le-mul d (omega arith)

-- 0 - k is -k, and it fits
pub below_none : (k : ℕ) → pos 0 -ℤ pos k ≡ neg_ℤ (pos k)
below_none k = +ℤ_idl (neg_ℤ (pos k))

pub least_fits : (w : Width) (k : ℕ) → k ≤ 2 ^ hbits w → SFits w (neg_ℤ (pos k))
least_fits w zero h = record { sfits = pow_pos (hbits w) }
least_fits w (suc k) h = record { sfits = h }

pub wide_fits : (k : ℕ) → k ≤ 2 ^ 31 → SFits w64 (pos 0 -ℤ pos k)
wide_fits k h = rw (below_none k) (least_fits w64 k (omega arith))

pub half_few : (n : ℕ) → n ≤ 2 ^ 32 → (n + 1) / 2 ≤ 2 ^ 31
half_few n h = omega arith

-- what the code makes of k
pub turned : (k : ℕ) → k ≤ 2 ^ 31 → to_z w64 (of_z w64 (pos 0 -ℤ pos k)) ≡ neg_ℤ (pos k)
turned k h = to_z-of_z w64 (pos 0 -ℤ pos k) (wide_fits k h) ∙ below_none k
