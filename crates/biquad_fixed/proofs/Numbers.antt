-- What an accepted call knows: its fraction bits lie in range, and a clamped output within its limits.
use mathlib.Core.Path.{◌≡◌, refl}
use mathlib.Core.Bool.{Bool, true, false, ◌||◌, cond}
use Prim.Native.Nat.{ℕ, ◌≤◌}
use native.Mathlib.Omega.{arith}
use borrow.Author.Tests.{ltb-false, le-ltb}
use lib.Dec.{ltb}
use lib.IntN.{ℤ, pos, negsuc, ◌+ℤ◌}
use lib.Signed.{lt_z}
use mir.Syntax.{w32}
use Rattle.words.specs.Words.{wrap}
use Rattle.biquad_fixed.specs.declared.coefficients.Biquad.{Biquad}
use Rattle.biquad_fixed.specs.declared.coefficients.BiquadClamp.{BiquadClamp}
use Rattle.biquad_fixed.specs.Forms.{held_to, limited}
use Rattle.biquad_fixed.specs.Answers.{fraction_number, clamp_number}

pub in_range_law : (least : ℕ) (c : Biquad) → fraction_number least c ≡ 0 → (least ≤ c.f) × (c.f ≤ 31)
in_range_law least c e = pick (ltb c.f least) (ltb 31 c.f) refl refl e
  where
    pick : (b d : Bool) → ltb c.f least ≡ b → ltb 31 c.f ≡ d → ◌≡◌ {A = ℕ} (cond (b || d) 40 0) 0 → (least ≤ c.f) × (c.f ≤ 31)
    pick true d p q h = absurd (omega arith)
    pick false true p q h = absurd (omega arith)
    pick false false p q h = (ltb-false c.f least p, ltb-false 31 c.f q)

module _ (least : ℕ) (c : BiquadClamp) (ok : clamp_number least c ≡ 0) where
  -- an accepted clamped filter has accepted fraction bits
  pub accepted : fraction_number least c.coeff ≡ 0
  accepted = pick (ltb c.coeff.f least || ltb 31 c.coeff.f) refl
    where
      pick : (b : Bool) → ltb c.coeff.f least || ltb 31 c.coeff.f ≡ b → fraction_number least c.coeff ≡ 0
      pick true p = rw p (rw p at ok)
      pick false p = rw p

  -- and limits in order
  ordered : lt_z c.max c.min ≡ false
  ordered = pick (lt_z c.max c.min) refl (rw accepted at ok)
    where
      pick : (b : Bool) → lt_z c.max c.min ≡ b → ◌≡◌ {A = ℕ} (cond (lt_z c.max c.min) 41 0) 0 → lt_z c.max c.min ≡ false
      pick true p h = absurd (let k : ◌≡◌ {A = ℕ} 41 0 = rw p at h in omega arith)
      pick false p h = p

  -- an output is neither below the lower limit nor above the upper
  pub within : (y : ℤ) → (lt_z (limited c y) c.min ≡ false) × (lt_z c.max (limited c y) ≡ false)
  within y = pick (lt_z z c.min) (lt_z c.max z) refl refl
    where
      z : ℤ
      z = wrap w32 (y +ℤ c.u)

      never : (a : ℤ) → lt_z a a ≡ false
      never (pos n) = le-ltb n n (omega arith)
      never (negsuc n) = le-ltb n n (omega arith)

      pick : (b d : Bool) → lt_z z c.min ≡ b → lt_z c.max z ≡ d
          → (lt_z (held_to c.min c.max z) c.min ≡ false) × (lt_z c.max (held_to c.min c.max z) ≡ false)
      pick true d p q = rw p (never c.min, ordered)
      pick false true p q = rw (p, q) (ordered, never c.max)
      pick false false p q = rw (p, q) (p, q)
