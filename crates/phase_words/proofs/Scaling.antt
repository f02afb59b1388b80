-- Quotient and clamp both keep the order.
use mathlib.Core.Path.{◌≡◌, refl, sym, ap}
use mathlib.Core.Bool.{Bool, true, false, cond, ◌||◌}
use Prim.Native.Nat.{ℕ, min, ◌/◌, ◌^◌, ◌≤◌}
use native.Mathlib.Nat.{mul-le-mul_right}
use native.Mathlib.Omega.{arith}
use lib.Dec.{ltb, eqb, le→leb, leb→le}
use lib.Pow.{pow_pos}
use lib.IntN.{ℤ, pos, negsuc}
use lib.Signed.{◌≤ℤ◌}
use lib.Ieee.Nearest.{div_mono}
use borrow.Author.Rules.{rules}
use borrow.Author.Tests.{ltb-true, ltb-false}
use Rattle.std.specs.Prelude.{Result, Ok, Err}
use Rattle.blocks.specs.declared.refusal.Refusal.{Refusal}
use Rattle.unwrap.specs.Scales.{wide_value, clamped, scaled_to, scaled_of}
use Rattle.phase_words.specs.Scales.{Monotone}

-- ---- the clamp: by its sign the size stops at 2 ^ 31 - 1

least_of : (n : ℕ) {A : Type 0} (of : ℕ → A) → cond (ltb 2147483647 n) (of 2147483647) (of n) ≡ of (min n 2147483647)
least_of n {A} of = pick (ltb 2147483647 n) refl
  where
    pick : (t : Bool) → ltb 2147483647 n ≡ t → cond t (of 2147483647) (of n) ≡ of (min n 2147483647)
    pick true e = let h = ltb-true 2147483647 n e in let k : 2147483647 ≡ min n 2147483647 = omega arith in ap of k
    pick false e = let h = ltb-false 2147483647 n e in let k : n ≡ min n 2147483647 = omega arith in ap of k

clamped_pos : (n : ℕ) → clamped (pos n) ≡ pos (min n 2147483647)
unfolding clamped
clamped_pos n = least_of n pos

clamped_neg : (n : ℕ) → clamped (negsuc n) ≡ negsuc (min n 2147483647)
unfolding clamped
clamped_neg n = least_of n negsuc

-- ---- monotone

quotient_up : (a b s : ℕ) → a ≤ b → min (a / 2 ^ s) 2147483647 ≤ min (b / 2 ^ s) 2147483647
quotient_up a b s h =
    let q : a / 2 ^ s ≤ b / 2 ^ s = div_mono a (2 ^ s) b (2 ^ s) (pow_pos s) (pow_pos s) (mul-le-mul_right (2 ^ s) h) in
    omega arith

scaled_up : (s : ℕ) (v u : ℤ) → v ≤ℤ u → scaled_to s v ≤ℤ scaled_to s u
scaled_up s (pos a) (pos b) h =
    rw (clamped_pos (a / 2 ^ s), clamped_pos (b / 2 ^ s)) (record { le = le→leb _ _ (quotient_up a b s (leb→le a b h.le)) })
scaled_up s (pos a) (negsuc b) h = absurd h.le
scaled_up s (negsuc a) (pos b) h = rw (clamped_neg (a / 2 ^ s), clamped_pos (b / 2 ^ s)) (record { le = tt })
scaled_up s (negsuc a) (negsuc b) h =
    rw (clamped_neg (a / 2 ^ s), clamped_neg (b / 2 ^ s)) (record { le = le→leb _ _ (quotient_up b a s (leb→le b a h.le)) })

answered : (lo hi y : ℤ) (s : ℕ) → scaled_of lo hi s ≡ Ok y → scaled_to s (wide_value lo hi) ≡ y
unfolding scaled_of
answered lo hi y s = pick (eqb s 0 || ltb 32 s) (scaled_to s (wide_value lo hi))
  where
    pick : (t : Bool) (v : ℤ) → ◌≡◌ {A = Result ℤ Refusal} (cond t (Err Refusal.ScaleShift) (Ok v)) (Ok y) → v ≡ y
    pick true v e = search rules
    pick false v e = search rules

pub monotone : Monotone
monotone s lo hi lo' hi' y y' h e f =
    rw (sym (answered lo hi y s e), sym (answered lo' hi' y' s f)) (scaled_up s (wide_value lo hi) (wide_value lo' hi') h)
