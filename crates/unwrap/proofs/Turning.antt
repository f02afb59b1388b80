-- A difference of two words lies within one turn, so wrapping adds -1, 0 or 1 turns, told by two signs.
use mathlib.Core.Path.{◌≡◌, refl, sym, ap, ◌∙◌}
use mathlib.Core.Bool.{Bool, true, false}
use Prim.Native.Nat.{ℕ, zero, suc, ◌+◌, ◌-◌, ◌%◌, ◌^◌, ◌<◌, ◌≤◌}
use native.Mathlib.Omega.{arith}
use lib.Dec.{ltb, leb-suc-suc}
use lib.IntN.{ℤ, pos, negsuc, sub_ℕ, ◌-ℤ◌, ◌*ℤ◌, +ℤ_invr}
use lib.Signed.{mag, lt_z}
use mir.Syntax.{w32}
use mir.Val.{SFits, to_z, of_z}
use mir.ValLaws.{to_z_pos, to_z-of_z}
use borrow.Author.Tests.{ltb-true, ltb-false, lt-ltb, le-ltb}
use Rattle.words.specs.Words as W
use Rattle.words.specs.Words.{wrap}
use Rattle.words.proofs.Reading.{wrap_is}
use Rattle.words.proofs.Sizes.{mag_minus}
use Rattle.words.proofs.Std.{sub_bits}
use Rattle.unwrap.specs.declared.wrapping.Wrap.{Wrap}
use Rattle.unwrap.specs.declared.wrapping.Difference.{Difference}
use Rattle.unwrap.specs.declared.wrapping.Wrap.TheVariants.{Negative, None, Positive}
use Rattle.unwrap.specs.Phases.{sign_of, case_of, difference_of}

-- the code's tests: whether the wrapped number lies below zero, and whether the number does
abbrev pub by_tests : Bool → Bool → Wrap
by_tests true true = None
by_tests true false = Negative
by_tests false true = Positive
by_tests false false = None

-- what wrapping z adds
pub record Turned (z : ℤ) : Type 0 where
  pub sign : Wrap
  pub apart : wrap w32 z -ℤ z ≡ sign_of sign *ℤ pos (2 ^ 32)
  pub tests : by_tests (lt_z (wrap w32 z) (pos 0)) (lt_z z (pos 0)) ≡ sign

none_below : (n : ℕ) → ltb n 0 ≡ false
none_below n = le-ltb n 0 (omega arith)

-- in range nothing is added
still : (z : ℤ) (b : Bool) → SFits w32 z → lt_z z (pos 0) ≡ b → by_tests b b ≡ None → Turned z
still z b f t e = record {
  sign = None;
  apart = ap (λ (y : ℤ). y -ℤ z) (wrap_is w32 z f) ∙ +ℤ_invr z;
  tests = rw (wrap_is w32 z f, t) e;
}

above : (n : ℕ) → 2 ^ 31 ≤ n → n < 2 ^ 32 → wrap w32 (pos n) ≡ negsuc (2 ^ 32 - suc n)
unfolding W.wrap W.word
above n h k = let e : n % 2 ^ 32 ≡ n = omega arith in rw (e, le-ltb n (2 ^ 31) h)

under : (n : ℕ) → 2 ^ 31 ≤ n → n < 2 ^ 32 → wrap w32 (negsuc n) ≡ pos (2 ^ 32 - suc n)
unfolding W.wrap W.word
under n h k = let e : n % 2 ^ 32 ≡ n = omega arith in rw e (to_z_pos w32 (2 ^ 32 - suc n) (omega arith))

pub wraps : (z : ℤ) → mag z < 2 ^ 32 → Turned z
wraps (pos n) h = pick (ltb n (2 ^ 31)) refl
  where
    high : (m : ℕ) → 2 ^ 31 ≤ suc m → suc m < 2 ^ 32 → negsuc (2 ^ 32 - suc (suc m)) -ℤ pos (suc m) ≡ negsuc (2 ^ 32 - 1)
    high m l k = let e : suc (2 ^ 32 - suc (suc m) + m) ≡ 2 ^ 32 - 1 = omega arith in ap negsuc e

    over : (m : ℕ) → 2 ^ 31 ≤ m → m < 2 ^ 32 → negsuc (2 ^ 32 - suc m) -ℤ pos m ≡ negsuc (2 ^ 32 - 1)
    over zero l k = absurd (omega arith)
    over (suc m) l k = high m l k

    pick : (b : Bool) → ltb n (2 ^ 31) ≡ b → Turned (pos n)
    pick true e = still (pos n) false (record { sfits = ltb-true n (2 ^ 31) e }) (none_below n) refl
    pick false e =
        let l = ltb-false n (2 ^ 31) e in
        record { sign = Negative; apart = rw (above n l h) (over n l h); tests = rw (above n l h, none_below n) }
wraps (negsuc n) h = pick (ltb n (2 ^ 31)) refl
  where
    pick : (b : Bool) → ltb n (2 ^ 31) ≡ b → Turned (negsuc n)
    pick true e = still (negsuc n) true (record { sfits = ltb-true n (2 ^ 31) e }) refl refl
    pick false e =
        let l = ltb-false n (2 ^ 31) e in
        let s : 2 ^ 32 - suc n + suc n ≡ 2 ^ 32 = omega arith in
        record { sign = Positive; apart = rw (under n l h) (ap pos s); tests = rw (under n l h, none_below (2 ^ 32 - suc n)) }

-- the sign of so many turns
pub case_turns : (s : Wrap) → case_of (sign_of s *ℤ pos (2 ^ 32)) ≡ s
case_turns Negative = refl
case_turns None = refl
case_turns Positive = refl

-- y is below x exactly where y - x is below 0
sub-below : (m n : ℕ) → lt_z (sub_ℕ m n) (pos 0) ≡ ltb m n
sub-below m n = pick (ltb m n) refl
  where
    pick : (b : Bool) → ltb m n ≡ b → lt_z (sub_ℕ m n) (pos 0) ≡ ltb m n
    pick true e = rw e
    pick false e = rw e (none_below (m - n))

minus-below : (y x : ℤ) → lt_z (y -ℤ x) (pos 0) ≡ lt_z y x
minus-below (pos m) (pos zero) = none_below (m + 0) ∙ sym (none_below m)
minus-below (pos m) (pos (suc n)) = sub-below m (suc n)
minus-below (pos m) (negsuc n) = none_below (m + suc n)
minus-below (negsuc m) (pos zero) = sub-below 0 (suc m) ∙ lt-ltb 0 (suc m) (omega arith)
minus-below (negsuc m) (pos (suc n)) = refl
minus-below (negsuc m) (negsuc n) = sub-below (suc n) (suc m) ∙ leb-suc-suc (suc n) m

module _ (y x : ℤ) (hy : SFits w32 y) (hx : SFits w32 x) where
  pub within : mag (y -ℤ x) < 2 ^ 32
  within = let k = mag_minus y x in let p = hy.sfits in let q = hx.sfits in omega arith

  pub sign_is : (difference_of y x).wrap ≡ (wraps (y -ℤ x) within).sign
  unfolding difference_of
  sign_is = ap case_of (wraps (y -ℤ x) within).apart ∙ case_turns (wraps (y -ℤ x) within).sign

  -- what the code finds by its tests is the sign
  tested : (b d : Bool) → lt_z (wrap w32 (y -ℤ x)) (pos 0) ≡ b → lt_z y x ≡ d
      → ◌≡◌ {A = Wrap} (by_tests b d) (difference_of y x).wrap
  tested b d p q = sym (sign_is ∙ sym (wraps (y -ℤ x) within).tests ∙ rw (p, minus-below y x, q))

  -- delta and wrap, as the code has them from the machine's difference
  pub classified : (b d : Bool) → lt_z (to_z w32 ((of_z w32 y + (2 ^ 32 - of_z w32 x)) % 2 ^ 32)) (pos 0) ≡ b
      → lt_z (to_z w32 (of_z w32 y)) (to_z w32 (of_z w32 x)) ≡ d
      → ◌≡◌ {A = Difference} (record { delta = to_z w32 ((of_z w32 y + (2 ^ 32 - of_z w32 x)) % 2 ^ 32); wrap = by_tests b d })
      (difference_of y x)
  unfolding difference_of
  classified b d p q =
      let e = sub_bits w32 y x hy hx in
      rw (e, tested b d (rw e at p) (rw (to_z-of_z w32 y hy, to_z-of_z w32 x hx) at q)) refl
