-- What the clamp does: a NaN passes, all else comes out within accepted limits, and with no offset and no limits the sum
-- comes out, but for -0.0.
use mathlib.Core.Path.{◌≡◌, refl, ◌∙◌}
use mathlib.Core.Bool.{Bool, true, false, cond}
use Prim.Native.Nat.{◌*◌}
use native.Mathlib.Nat.{le_refl}
use borrow.Author.Tests.{le-ltb}
use lib.Dec.{T}
use lib.Ieee.{Float, nan, inf, fin, binary64, up, down, lt, fits, of_bits}
use lib.Ieee.Fits.{add-fits}
use Rattle.biquad.specs.declared.biquad.Biquad.{Biquad}
use Rattle.biquad.specs.declared.direct_form1.DirectForm1.{DirectForm1}
use Rattle.biquad.specs.declared.direct_form2_transposed.DirectForm2Transposed.{DirectForm2Transposed}
use Rattle.biquad.specs.Rounded.{◌⊕◌, nought}
use Rattle.biquad.specs.Coefficients.{open_of}
use Rattle.biquad.specs.Forms.{clamp_to, sum1, held1, sum2, held2}
use Rattle.biquad.specs.Zeros.{zero_added}
use Rattle.biquad.proofs.Adding.{right}

pub nan_passes : (lower upper : Float) → clamp_to lower upper nan ≡ nan
unfolding clamp_to lt
nan_passes lower nan = refl
nan_passes lower (inf s) = refl
nan_passes lower (fin s m e) = refl

not_below : (x : Float) → lt x x ≡ false
unfolding lt
not_below nan = refl
not_below (inf true) = refl
not_below (inf false) = refl
not_below (fin true m e) = le-ltb _ _ (le_refl (m * up e * down e))
not_below (fin false m e) = le-ltb _ _ (le_refl (m * up e * down e))

-- no output is below the lower limit or above the upper, where the lower is not above the upper
pub within : (lower upper y : Float) → lt upper lower ≡ false
    → (lt (clamp_to lower upper y) lower ≡ false) × (lt upper (clamp_to lower upper y) ≡ false)
unfolding clamp_to
within lower upper y h = go (lt y lower) (lt upper y) refl refl
  where
    go : (b c : Bool) → lt y lower ≡ b → lt upper y ≡ c
        → (lt (cond b lower (cond c upper y)) lower ≡ false) × (lt upper (cond b lower (cond c upper y)) ≡ false)
    go true c p q = (not_below lower, h)
    go false true p q = (h, not_below upper)
    go false false p q = (p, q)

-- infinite limits let everything pass
free : (y : Float) → clamp_to (inf true) (inf false) y ≡ y
unfolding clamp_to lt
free nan = refl
free (inf true) = refl
free (inf false) = refl
free (fin s m e) = refl

unmoved : (y : Float) → T (fits binary64 y) → clamp_to (inf true) (inf false) (y ⊕ nought) ≡ zero_added false y
unfolding of_bits
unmoved y h = free (y ⊕ nought) ∙ right y false h

pub open1 : (c : Biquad) (s : DirectForm1) (x : Float) → held1 (open_of c) s x ≡ zero_added false (sum1 c s x)
unfolding sum1
open1 c s x = unmoved (sum1 c s x) (add-fits binary64 _ _)

pub open2 : (c : Biquad) (s : DirectForm2Transposed) (x : Float) → held2 (open_of c) s x ≡ zero_added false (sum2 c s x)
unfolding sum2
open2 c s x = unmoved (sum2 c s x) (add-fits binary64 _ _)
