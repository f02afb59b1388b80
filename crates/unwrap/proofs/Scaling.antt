-- saturating_scale in whole numbers: 2 ^ shift divides what hi adds, so the code's two shifts add up to the quotient of the
-- whole, which fits 64 bits.
use mathlib.Core.Path.{◌≡◌, refl, sym, ap, ◌∙◌}
use mathlib.Core.Bool.{Bool, true, false, cond}
use Rattle.std.specs.Prelude.{T}
use lib.Dec.{ltb}
use Prim.Native.Nat.{ℕ, zero, suc, ◌+◌, ◌-◌, ◌*◌, ◌/◌, ◌^◌, ◌<◌, ◌≤◌}
use native.Mathlib.Nat.{mul_assoc, div-lt_iff_lt-mul, mul-le-mul_left, zero-mul}
use native.Mathlib.Omega.{arith}
use lib.Pow.{pow_pos, pow-add, pow_mono}
use lib.IntN.{ℤ, pos, negsuc, neg_ℤ, ◌+ℤ◌, ◌*ℤ◌}
use lib.Signed.{mag, ◌<ℤ◌}
use borrow.Author.Tests.{ltb-false}
use mir.Syntax.{w32, w64}
use mir.Val.{SFits}
use Rattle.words.specs.Words.{wrap, floor_div}
use Rattle.words.proofs.Reading.{wrap_is}
use Rattle.words.proofs.Sums.{equal, wrapped, same_add, wrap-same}
use Rattle.words.proofs.Sizes.{mag_add}
use Rattle.words.proofs.Floors.{floor_turns}
use Rattle.std.specs.Int.{int_max, int_min}
use Rattle.unwrap.specs.Phases.{least_word, greatest_word}
use Rattle.unwrap.specs.Scales.{wide_value, clamped}

-- ---- the quotient fits 64 bits, though the whole may not

neg_mag : (n B : ℕ) → n ≤ B → 0 < B → mag (neg_ℤ (pos n)) < B
neg_mag zero B h p = p
neg_mag (suc n) B h p = h

high_mag : (hi : ℤ) → SFits w32 hi → mag (hi *ℤ pos (2 ^ 32)) < 2 ^ 63
high_mag (pos n) f = let h = f.sfits in omega arith
high_mag (negsuc n) f = let h = f.sfits in neg_mag (suc n * 2 ^ 32) (2 ^ 63) (omega arith) (pow_pos 63)

floor_mag : (z : ℤ) (m : ℕ) → mag (floor_div z m) ≡ mag z / m
floor_mag (pos n) m = refl
floor_mag (negsuc n) m = refl

quotient_fits : (a m : ℕ) → 2 ≤ m → a < 2 ^ 64 → a / m < 2 ^ 63
quotient_fits a m h k = (div-lt_iff_lt-mul {k = m} {x = a} {y = 2 ^ 63} (omega arith)).1 (omega (arith, mul-le-mul_left (2 ^ 63) h))

divided_fits : (lo hi : ℤ) (s : ℕ) → 1 ≤ s → SFits w32 lo → SFits w32 hi → SFits w64 (floor_div (wide_value lo hi) (2 ^ s))
divided_fits lo hi s h fl fh =
    let v = wide_value lo hi in
    let a = mag_add (hi *ℤ pos (2 ^ 32)) lo in
    let b = high_mag hi fh in
    let c = fl.sfits in
    let two : 2 ≤ 2 ^ s = pow_mono {i = 1} {j = s} h in
    record { sfits = rw (floor_mag v (2 ^ s)) (quotient_fits (mag v) (2 ^ s) two (omega arith)) }

-- ---- what the code adds up

times-times : (z : ℤ) (a b : ℕ) → z *ℤ pos a *ℤ pos b ≡ z *ℤ pos (a * b)
times-times (pos n) a b = ap pos (mul_assoc n a b)
times-times (negsuc n) a b = neg_times (suc n * a) b ∙ ap (λ (m : ℕ). neg_ℤ (pos m)) (mul_assoc (suc n) a b)
  where
    neg_times : (m b : ℕ) → neg_ℤ (pos m) *ℤ pos b ≡ neg_ℤ (pos (m * b))
    neg_times zero b = let e : 0 * b ≡ 0 = zero-mul b in ap pos e ∙ ap (λ (m : ℕ). neg_ℤ (pos m)) (sym e)
    neg_times (suc m) b = refl

pub divided_is : (lo hi : ℤ) (s : ℕ) → 1 ≤ s → s ≤ 32 → SFits w32 lo → SFits w32 hi
    → wrap w64 (wrap w64 (hi *ℤ pos (2 ^ (32 - s))) +ℤ floor_div lo (2 ^ s)) ≡ floor_div (wide_value lo hi) (2 ^ s)
divided_is lo hi s h k fl fh =
    let q = 2 ^ (32 - s) in let m = 2 ^ s in
    let t : 32 - s + s ≡ 32 = omega arith in
    let p : q * m ≡ 2 ^ 32 = sym (pow-add 2 (32 - s) s) ∙ ap (λ (n : ℕ). 2 ^ n) t in
    let whole : hi *ℤ pos q *ℤ pos m ≡ hi *ℤ pos (2 ^ 32) = times-times hi q m ∙ ap (λ (n : ℕ). hi *ℤ pos n) p in
    let sum : hi *ℤ pos q +ℤ floor_div lo m ≡ floor_div (wide_value lo hi) m =
    sym (floor_turns (hi *ℤ pos q) lo m (pow_pos s)) ∙ ap (λ (z : ℤ). floor_div (z +ℤ lo) m) whole in
    wrap-same (same_add (wrapped w64 (hi *ℤ pos q)) (equal {a = floor_div lo m} refl))
    ∙ ap (wrap w64) sum
    ∙ wrap_is w64 (floor_div (wide_value lo hi) m) (divided_fits lo hi s h fl fh)

-- ---- the clamp of std is the definition's, and what it leaves fits a word

pub held : (v : ℤ) → int_max least_word (int_min v greatest_word) ≡ clamped v
unfolding clamped
held (pos n) = pick (ltb 2147483647 n)
  where
    pick : (b : Bool) → int_max least_word (cond b (pos 2147483647) (pos n)) ≡ cond b (pos 2147483647) (pos n)
    pick true = refl
    pick false = refl
held (negsuc n) = refl

-- a value over the greatest word
pub clipped : (v : ℤ) → pos 2147483647 <ℤ v → clamped v ≡ pos 2147483647
unfolding clamped
clipped (pos n) h = pick (ltb 2147483647 n) h.lt
  where
    pick : (b : Bool) → T b → cond b (pos 2147483647) (pos n) ≡ pos 2147483647
    pick true t = refl
    pick false t = absurd t
clipped (negsuc n) h = absurd h.lt

pub clamped_fits : (v : ℤ) → SFits w32 (clamped v)
unfolding clamped
clamped_fits (pos n) = pick (ltb 2147483647 n) refl
  where
    pick : (b : Bool) → ltb 2147483647 n ≡ b → SFits w32 (cond b (pos 2147483647) (pos n))
    pick true e = record { sfits = omega arith }
    pick false e = let h = ltb-false 2147483647 n e in record { sfits = omega arith }
clamped_fits (negsuc n) = pick (ltb 2147483647 n) refl
  where
    pick : (b : Bool) → ltb 2147483647 n ≡ b → SFits w32 (cond b (negsuc 2147483647) (negsuc n))
    pick true e = record { sfits = omega arith }
    pick false e = let h = ltb-false 2147483647 n e in record { sfits = omega arith }
