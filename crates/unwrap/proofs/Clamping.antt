-- A clamp's output by its three cases: the sum of its own sign and the wrap's lies below zero, is zero, or lies above.
use mathlib.Core.Path.{◌≡◌, ap}
use Prim.Native.Nat.{ℕ, suc}
use lib.IntN.{ℤ, pos, negsuc, ◌+ℤ◌}
use Rattle.unwrap.specs.declared.clamp_wrap.ClampWrap.{ClampWrap}
use Rattle.unwrap.specs.Phases.{sign_of, case_of, difference_of, clamped_by, clamp_out}

module _ (s : ClampWrap) (x : ℤ) where
  abbrev sum : ℤ
  sum = sign_of s.clamp +ℤ sign_of (difference_of x s.x0).wrap

  by_sum : (z : ℤ) → sum ≡ z → clamp_out s x ≡ clamped_by (case_of z) x
  by_sum z e = ap (λ (y : ℤ). clamped_by (case_of y) x) e

  pub least : (n : ℕ) → sum ≡ negsuc n → clamp_out s x ≡ negsuc 2147483647
  least n e = by_sum (negsuc n) e

  pub free : sum ≡ pos 0 → clamp_out s x ≡ x
  free e = by_sum (pos 0) e

  pub greatest : (n : ℕ) → sum ≡ pos (suc n) → clamp_out s x ≡ pos 2147483647
  greatest n e = by_sum (pos (suc n)) e
