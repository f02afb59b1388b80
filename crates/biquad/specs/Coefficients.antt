-- 01, 'f64 biquad': pairs, the associated filters, the record of doubles, gain and offset.
use Rattle.std.specs.Prelude.{true, false, Float}
use Rattle.std.specs.Float.{inf}
use Rattle.std.specs.Float.Ieee.{neg}
use Rattle.biquad.specs.Rounded.{◌⊕◌, ◌⊗◌, nought, one}
use Rattle.biquad.specs.declared.pair.Pair.{Pair}
use Rattle.biquad.specs.declared.pair.Pair.TheVariants.{Real, Complex}
use Rattle.biquad.specs.declared.pair.Quadratic.{Quadratic}
use Rattle.biquad.specs.declared.biquad.Biquad.{Biquad}
use Rattle.biquad.specs.declared.biquad_clamp.BiquadClamp.{BiquadClamp}

-- the sum and the product of real roots x and y, or of the complex pair x + jy and x - jy
abbrev pub sum_of : Pair → Float
sum_of (Real x y) = x ⊕ y
sum_of (Complex x y) = x ⊕ x

abbrev pub product_of : Pair → Float
product_of (Real x y) = x ⊗ y
product_of (Complex x y) = x ⊗ x ⊕ y ⊗ y

abbrev pub coeff_of : Pair → Quadratic
coeff_of p = record { 0 = sum_of p; 1 = product_of p }

-- from zeros, poles and gain
abbrev pub zpk_of : Pair → Pair → Float → Biquad
zpk_of zeros poles gain = record {
  b0 = gain;
  b1 = neg (gain ⊗ sum_of zeros);
  b2 = gain ⊗ product_of zeros;
  a1 = sum_of poles;
  a2 = neg (product_of poles);
}

-- proportional, IDENTITY and HOLD
abbrev pub proportional_of : Float → Biquad
proportional_of k = record { b0 = k; b1 = nought; b2 = nought; a1 = nought; a2 = nought }

abbrev pub identity_of : Biquad
identity_of = proportional_of one

abbrev pub hold_of : Biquad
hold_of = record { b0 = nought; b1 = nought; b2 = nought; a1 = one; a2 = nought }

-- the forward gain
abbrev pub forward_gain : Biquad → Float
forward_gain c = c.b0 ⊕ c.b1 ⊕ c.b2

-- the coefficients of the record, and the record of coefficients with no offset and no limits
abbrev pub coeffs : BiquadClamp → Biquad
coeffs c = record { b0 = c.b0; b1 = c.b1; b2 = c.b2; a1 = c.a1; a2 = c.a2 }

abbrev pub open_of : Biquad → BiquadClamp
open_of c = record { b0 = c.b0; b1 = c.b1; b2 = c.b2; a1 = c.a1; a2 = c.a2; u = nought; min = inf true; max = inf false }

-- the offset set from the input's side
abbrev pub with_offset : BiquadClamp → Float → BiquadClamp
with_offset c i = record {
  b0 = c.b0;
  b1 = c.b1;
  b2 = c.b2;
  a1 = c.a1;
  a2 = c.a2;
  u = i ⊗ forward_gain (coeffs c);
  min = c.min;
  max = c.max;
}
