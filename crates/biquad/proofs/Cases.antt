-- Document 01's case of from_zpk, and small cases of zeros and NaNs, by computation.
use mathlib.Core.Path.{◌≡◌, refl}
use Prim.Native.Nat.{ℕ}
use lib.Ieee.{Float, nan, binary64, of_bits, add, mul, neg, div, eq}
use Rattle.std.specs.Prelude.{Ok, Err}
use Rattle.blocks.specs.declared.refusal.Refusal.{Refusal}
use Rattle.blocks.specs.Refusals.{refusal_at, answer}
use Rattle.biquad.specs.declared.pair.Pair.TheVariants.{Real, Complex}
use Rattle.biquad.specs.Rounded.{nought, one}
use Rattle.biquad.specs.Coefficients.{zpk_of, identity_of, open_of, proportional_of}
use Rattle.biquad.specs.Forms.{sum1, zero1}
use Rattle.biquad.specs.Answers.{offset_of}

abbrev double : ℕ → Float
double bits = of_bits binary64 bits

abbrev minus0 : Float
minus0 = double 0x8000_0000_0000_0000

-- 01, bench figures: zeros Real 2, 3; poles Complex 0.5, 0.5; gain 2: 2, -10, 12, 1, -0.5
pub zpk : zpk_of (Real (double 0x4000_0000_0000_0000) (double 0x4008_0000_0000_0000))
    (Complex (double 0x3fe0_0000_0000_0000) (double 0x3fe0_0000_0000_0000)) (double 0x4000_0000_0000_0000)
    ≡ record {
      b0 = double 0x4000_0000_0000_0000;
      b1 = double 0xc024_0000_0000_0000;
      b2 = double 0x4028_0000_0000_0000;
      a1 = double 0x3ff0_0000_0000_0000;
      a2 = double 0xbfe0_0000_0000_0000;
    }
unfolding of_bits add mul neg
zpk = refl

-- IDENTITY turns -0.0 into +0.0 from the zero state, and keeps it where the state is negative throughout
pub identity_zero : sum1 identity_of zero1 minus0 ≡ nought
unfolding sum1 of_bits add mul
identity_zero = refl

pub identity_minus : sum1 identity_of (record { x1 = minus0; x2 = minus0; y1 = minus0; y2 = minus0 }) minus0 ≡ minus0
unfolding sum1 of_bits add mul
identity_minus = refl

-- the forward gain 1 - 1, and the gain -0.0 of three such coefficients, are zero: 42
pub no_gain : offset_of (open_of (record { b0 = one; b1 = double 0xbff0_0000_0000_0000; b2 = nought; a1 = nought; a2 = nought })) ≡ Err Refusal.ForwardGain
unfolding answer refusal_at of_bits add eq
no_gain = refl

pub minus-gain : offset_of (open_of (record { b0 = minus0; b1 = minus0; b2 = minus0; a1 = nought; a2 = nought })) ≡ Err Refusal.ForwardGain
unfolding answer refusal_at of_bits add eq
minus-gain = refl

-- a NaN gain is no zero: the answer is a NaN
pub nan_gain : offset_of (open_of (proportional_of nan)) ≡ Ok nan
unfolding answer of_bits add eq div
nan_gain = refl
