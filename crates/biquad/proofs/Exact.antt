-- A double that is rounded again stays as it is: its bits turn on its value alone, and what fits has one pattern of bits.
use mathlib.Core.Path.{◌≡◌, refl, sym, ap, ◌∙◌}
use mathlib.Core.Bool.{Bool, true, false, not, cond, ◌&&◌}
use Prim.Native.Nat.{ℕ, zero, suc, ◌+◌, ◌-◌, ◌*◌, ◌/◌, ◌%◌, ◌^◌, ◌≤◌, ◌<◌}
use native.Mathlib.Nat.{zero-mul, mul-one, mul_assoc, mul_right_comm, add_comm, not-le_of_lt}
use native.Mathlib.Omega.{arith}
use lib.IntN.{ℤ, pos, negsuc}
use lib.Dec.{T, eqb, leb, ltb, leb→le, nleb→lt, ltb→lt}
use lib.Pow.{pow-add, pow_pos, pow-lt, shl_lt}
use lib.Ieee.{Float, fin, Format, prec, emax, low, up, down, round, fits, to_bits, of_bits, size, hid, top}
use lib.Ieee.Fits.{and_l, and_r, down_pos, round-fits}
use lib.Ieee.Exact.{HasValue, round_exact}
use lib.Ieee.Bits.{of_bits-to_bits}
use lib.Ieee.Nearest.{div_same}

-- the magnitude in units of the smallest value, and the pattern that has it
abbrev count : Format → ℕ → ℤ → ℕ
count f m e = m * up e * 2 ^ low f / down e

abbrev pattern : Format → Bool → ℕ → ℕ
pattern f s n = cond s (top f) 0 + (size n - prec f) * hid f + n / 2 ^ (size n - prec f)

patterned : (f : Format) (s : Bool) (m : ℕ) (e : ℤ) → to_bits f (fin s m e) ≡ pattern f s (count f m e)
unfolding to_bits
patterned f s m e = refl

-- what fits and has the value of what fits is it
only : (f : Format) (x : Float) (s : Bool) (m : ℕ) (e : ℤ) → T (fits f x) → T (fits f (fin s m e)) → HasValue x s (m * up e) (down e)
    → x ≡ fin s m e
only f lib.Ieee.nan s m e p q v = elim v [ ]
only f (lib.Ieee.inf _) s m e p q v = elim v [ ]
only f (fin t n g) s m e p q v =
    let same : count f n g ≡ count f m e =
    div_same (n * up g * 2 ^ low f) (down g) (m * up e * 2 ^ low f) (down e) (down_pos g) (down_pos e)
    (mul_right_comm (n * up g) (2 ^ low f) (down e) ∙ ap (λ (z : ℕ). z * 2 ^ low f) v.1 ∙ mul_right_comm (m * up e) (down g)
    (2 ^ low f)) in
    sym (of_bits-to_bits f (fin t n g) p)
    ∙ ap (of_bits f) (patterned f t n g ∙ (λ i. pattern f (v.0 i) (same i)) ∙ sym (patterned f s m e))
    ∙ of_bits-to_bits f (fin s m e) q

-- a number that fits is m times a power of two of the smallest values
record Scaled (f : Format) (m : ℕ) (e : ℤ) : Type 0 where
  j : ℕ
  small : m < 2 ^ prec f
  under : m * 2 ^ j < 2 ^ (low f + suc (emax f))
  is : m * up e * 2 ^ low f ≡ m * 2 ^ j * down e

exponents : (i j : ℕ) → 2 ^ i ≤ 2 ^ j → i ≤ j
exponents i j h = go (leb i j) (leb→le i j) (nleb→lt i j)
  where
    go : (b : Bool) → (T b → i ≤ j) → (T (not b) → j < i) → i ≤ j
    go true f g = f tt
    go false f g = absurd (not-le_of_lt (pow-lt (g tt)) h)

raised : (m k l e : ℕ) → m * 2 ^ k < 2 ^ e * 1 → (m * 2 ^ (k + l) < 2 ^ (l + e)) × (m * 2 ^ k * 2 ^ l ≡ m * 2 ^ (k + l) * 1)
raised m k l e h = (
  rw (pow-add 2 k l, ← mul_assoc m (2 ^ k) (2 ^ l), add_comm l e) (shl_lt e l (rw mul-one at h)),
  rw (mul-one, pow-add 2 k l, mul_assoc),
)

lowered : (m k l e : ℕ) → k ≤ l → m * 1 < 2 ^ e * 2 ^ k → (m * 2 ^ (l - k) < 2 ^ (l + e)) × (m * 1 * 2 ^ l ≡ m * 2 ^ (l - k) * 2 ^ k)
lowered m k l e b h =
    let x : e + k + (l - k) ≡ l + e = omega arith in
    let y : l - k + k ≡ l = omega arith in
    let lt : m < 2 ^ (e + k) = rw (pow-add 2 e k) (rw mul-one at h) in
    (rw x at (shl_lt (e + k) (l - k) lt), rw (mul-one, mul_assoc, ← pow-add 2 (l - k) k, y))

scaled : (f : Format) (s : Bool) (m : ℕ) (e : ℤ) → T (fits f (fin s m e)) → Scaled f m e
unfolding fits
scaled f s zero e t = record { j = 0; small = pow_pos (prec f); under = pow_pos (low f + suc (emax f)); is = simp zero-mul }
scaled f s (suc m) e t =
    let whole = eqb (suc m % 2) 1 in
    let few = ltb (suc m) (2 ^ prec f) in
    let fine = leb (down e) (2 ^ low f) in
    let below = ltb (suc m * up e) (2 ^ suc (emax f) * down e) in
    let held = and_l (whole && few && fine) below t in
    let small = ltb→lt (suc m) (2 ^ prec f) (and_r whole few (and_l (whole && few) fine held)) in
    go e (leb→le (down e) (2 ^ low f) (and_r (whole && few) fine held))
    (ltb→lt (suc m * up e) (2 ^ suc (emax f) * down e) (and_r (whole && few && fine) below t)) small
  where
    go : (e : ℤ) → down e ≤ 2 ^ low f → suc m * up e < 2 ^ suc (emax f) * down e → suc m < 2 ^ prec f → Scaled f (suc m) e
    go (pos k) fine h small = let r = raised (suc m) k (low f) (suc (emax f)) h in
        record { j = k + low f; small = small; under = r.0; is = r.1 }
    go (negsuc k) fine h small =
        let r = lowered (suc m) (suc k) (low f) (suc (emax f)) (exponents (suc k) (low f) fine) h in
        record { j = low f - suc k; small = small; under = r.0; is = r.1 }

pub kept : (f : Format) (s : Bool) (m : ℕ) (e : ℤ) → T (fits f (fin s m e)) → round f s (m * up e) (down e) ≡ fin s m e
kept f s m e t =
    let d = scaled f s m e t in
    only f (round f s (m * up e) (down e)) s m e (round-fits f s (m * up e) (down e)) t
    (round_exact f s (m * up e) (down e) m d.j (down_pos e) d.small d.under d.is)
