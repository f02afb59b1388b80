-- The numbers that questions ask for: powers that stop at a cap, lengths in bits, and that they fit.
use mathlib.Core.Path.{◌≡◌, refl, sym, ap, ◌∙◌}
use mathlib.Core.Bool.{Bool, true, false, ◌||◌}
use mathlib.Core.Logic.{◌⊎◌, inl, inr, ⊎_elim}
use Prim.Native.Nat.{ℕ, zero, suc, min, ◌+◌, ◌-◌, ◌*◌, ◌/◌, ◌^◌, ◌≤◌, ◌<◌}
use native.Mathlib.Nat.{pow-suc, min-eq_left, min-eq_right, min-le_left, mul-le-mul, mul-le-mul_left, mul-le-mul_right, div-lt_iff_lt-mul}
use native.Mathlib.Nat.{div-mul-le_self, eq-zero-or-pos}
use native.Mathlib.Numerals.{add-one}
use native.Mathlib.Omega.{arith}
use lib.Count.{count_leading_zeros}
use lib.Dec.{leb, eqb}
use borrow.Author.Tests.{lt-leb, eqb-true}
use mir.Syntax.{w64}
use mir.Val.{Fits}
use Rattle.sums.specs.Calls.{bit_length, is_width}

-- a product that would pass the cap, and one that does not
pub past : (a b cap : ℕ) → 1 ≤ b → cap / b < a → cap ≡ min (a * b) cap
past a b cap p h = sym (min-eq_right (omega (arith, (div-lt_iff_lt-mul {k = b} {x = cap} {y = a} p).0 h)))

pub within : (a b cap : ℕ) → a ≤ cap / b → a * b ≤ cap
within a b cap h = omega (arith, mul-le-mul_right b h, div-mul-le_self cap b)

-- a product stops at the cap, wherever its factor stopped before
pub stops : (cap a b : ℕ) → 1 ≤ b → min (min a cap * b) cap ≡ min (a * b) cap
stops cap a b p = ⊎_elim under above (eq-zero-or-pos (a - cap))
  where
    under : a - cap ≡ 0 → min (min a cap * b) cap ≡ min (a * b) cap
    under h = rw (min-eq_left {n = a} {m = cap} (omega arith))

    above : 0 < a - cap → min (min a cap * b) cap ≡ min (a * b) cap
    above h =
        let u : cap * 1 ≤ cap * b = mul-le-mul_left cap p in
        let v : cap * b ≤ a * b = mul-le-mul_right b (omega arith) in
        rw (
          min-eq_right {n = cap} {m = a} (omega arith),
          min-eq_right {n = cap} {m = cap * b} (omega arith),
          min-eq_right {n = cap} {m = a * b} (omega arith),
        )

pub power_turn : (cap base i r : ℕ) → 1 ≤ base → r ≡ min (base ^ i) cap → min (r * base) cap ≡ min (base ^ (i + 1)) cap
power_turn cap base i r p e = rw (e, add-one, pow-suc) (stops cap (base ^ i) base p)

-- the leading zeros and the length make the whole
pub lengths : (k n : ℕ) → count_leading_zeros k n + bit_length k n ≡ k
unfolding count_leading_zeros bit_length
lengths zero n = refl
lengths (suc k) zero = omega arith
lengths (suc k) (suc n) = omega (arith, lengths k (suc n / 2))

pub span_fits : (rate delay : ℕ) → rate ≤ 65535 → delay ≤ 8 → (rate + 1) * delay ≤ 524288
span_fits rate delay h k = omega (arith, mul-le-mul {n₁ = rate + 1} {m₁ = delay} {n₂ = 65536} {m₂ = 8} (omega arith) k)

pub length_most : (k n : ℕ) → bit_length k n ≤ k
length_most k n = omega (arith, lengths k n)

-- R · M, as the code makes it
pub span_some : (rate delay : ℕ) → 1 ≤ delay → 1 ≤ suc rate * delay
span_some rate delay h = omega (arith, mul-le-mul {n₁ = 1} {m₁ = 1} {n₂ = suc rate} {m₂ = delay} (omega arith) h)

pub product_fits : (a b m n : ℕ) → a ≤ m → b ≤ n → m * n < 2 ^ 64 → Fits w64 (a * b)
product_fits a b m n h k small = record { fits = omega (arith, mul-le-mul h k) }

-- below the cap, what stopped there compares as the number does, and is it
module _ (g p cap m : ℕ) (e : p ≡ min g cap) (under : m < cap) where
  pub capped-over : m < p → m < g
  capped-over h = omega (arith, min-le_left g cap)

  pub capped_is : p ≤ m → p ≡ g
  capped_is h = ⊎_elim (λ z. e ∙ min-eq_left {n = g} {m = cap} (omega arith))
      (λ z. absurd (omega (arith, min-eq_right {n = cap} {m = g} (omega arith)))) (eq-zero-or-pos (g - cap))

  pub capped_leb : leb p m ≡ leb g m
  capped_leb = ⊎_elim (λ z. ap (λ n. leb n m) (capped_is (omega arith)))
      (λ z. lt-leb p m (omega arith) ∙ sym (lt-leb g m (capped-over (omega arith)))) (eq-zero-or-pos (p - m))

pub small : (a b : ℕ) → a ≤ 8 → b ≤ 8 → Fits w64 (a * b)
small a b h k = product_fits a b 8 8 h k (omega arith)

-- a width is at most 64
either : (a b : Bool) → a || b ≡ true → (a ≡ true) ⊎ (b ≡ true)
either true b e = inl refl
either false b e = inr e

pub width-most : (width : ℕ) → is_width width ≡ true → width ≤ 64
unfolding is_width
width-most width e =
    ⊎_elim (λ h. omega (arith, eqb-true width 32 h)) (λ h. omega (arith, eqb-true width 64 h)) (either (eqb width 32) (eqb width 64) e)
