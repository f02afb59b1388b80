-- IDENTITY, proportional and HOLD by what they do, step by step.
-- A step's zeros leave every sum but -0.0, and a value in the state that is not finite makes it a NaN.
use mathlib.Core.Path.{◌≡◌}
use mathlib.Core.Bool.{Bool, true, ◌&&◌}
use lib.Dec.{T}
use lib.Ieee.{Float, binary64, fits}
use lib.Ieee.Fits.{mul-fits}
use lib.Ieee.Scale.{finite}
use Rattle.biquad.specs.declared.direct_form1.DirectForm1.{DirectForm1}
use Rattle.biquad.specs.declared.direct_form2_transposed.DirectForm2Transposed.{DirectForm2Transposed}
use Rattle.biquad.specs.Rounded.{◌⊗◌, one}
use Rattle.biquad.specs.Coefficients.{proportional_of, identity_of, hold_of}
use Rattle.biquad.specs.Forms.{sum1, sum2, after2}
use Rattle.biquad.specs.Zeros.{negative, zero_of, zero_added, zeros_joined}
use Rattle.biquad.proofs.Adding.{Leaves, alone, none_of, more, onto, once, left, zero-fits}

-- Direct form 1 by proportional k gives k times x, if the four values of the state are finite; where the product is -0.0
-- it gives +0.0, unless the four are all negative.
pub proportional1 : (k x : Float) (s : DirectForm1)
    → sum1 (proportional_of k) s x
    ≡ zeros_joined (finite s.x1 && finite s.x2 && finite s.y1 && finite s.y2)
    (negative s.x1 && negative s.x2 && negative s.y1 && negative s.y2) (k ⊗ x)
unfolding sum1
proportional1 k x s =
    let h = mul-fits binary64 k x in (more s.y2 h (more s.y1 h (more s.x2 h (more s.x1 h (alone (k ⊗ x) h))))).is

-- IDENTITY in direct form 1 so gives x.
pub identity1 : (x : Float) (s : DirectForm1) → T (fits binary64 x)
    → sum1 identity_of s x
    ≡ zeros_joined (finite s.x1 && finite s.x2 && finite s.y1 && finite s.y2)
    (negative s.x1 && negative s.x2 && negative s.y1 && negative s.y2) x
identity1 x s h = rw (once x h) at (proportional1 one x s)

-- HOLD in direct form 1 gives the last output, if the input and the three other values of the state are finite; where that
-- output is -0.0 it gives +0.0, unless the four are all negative.
pub hold1 : (x : Float) (s : DirectForm1) → T (fits binary64 s.y1)
    → sum1 hold_of s x
    ≡ zeros_joined (finite x && finite s.x1 && finite s.x2 && finite s.y2)
    (negative x && negative s.x1 && negative s.x2 && negative s.y2) s.y1
unfolding sum1
hold1 x s h = let z = zero-fits true in (more s.y2 h (onto s.y1 h (more s.x2 z (more s.x1 z (none_of x))))).is

-- Direct form 2 transposed by proportional k, where the first cell is a zero, gives k times x, and -0.0 only where that
-- cell is -0.0. If x and the output y are finite, the first cell becomes the second, but for -0.0, and the second a zero.
pub proportional2 : (k x : Float) (a : Bool) (s : DirectForm2Transposed) → s.s1 ≡ zero_of a
    → sum2 (proportional_of k) s x ≡ zero_added a (k ⊗ x)
unfolding sum2
proportional2 k x a s e = rw e (left (k ⊗ x) a (mul-fits binary64 k x))

pub cells2 : (k x y : Float) (s : DirectForm2Transposed) → T (fits binary64 s.s2)
    → after2 (proportional_of k) s x y
    ≡ record {
      s1 = zeros_joined (finite x && finite y) (negative x && negative y) s.s2;
      s2 = zeros_joined (finite x && finite y) (negative x && negative y) (zero_of true);
    }
unfolding after2
cells2 k x y s h = λ i. record { s1 = (more y h (more x h (alone s.s2 h))).is i; s2 = (more y (zero-fits true) (none_of x)).is i }

-- IDENTITY in direct form 2 transposed so gives x.
pub identity2 : (x : Float) (a : Bool) (s : DirectForm2Transposed) → T (fits binary64 x) → s.s1 ≡ zero_of a
    → sum2 identity_of s x ≡ zero_added a x
identity2 x a s h e = rw (once x h) at (proportional2 one x a s e)

-- HOLD in direct form 2 transposed gives the first cell, but for -0.0, if x is finite. The output y becomes the first cell
-- where the second is a zero.
pub hold2 : (x : Float) (s : DirectForm2Transposed) → T (fits binary64 s.s1)
    → sum2 hold_of s x ≡ zeros_joined (finite x) (negative x) s.s1
unfolding sum2
hold2 x s h = (more x h (alone s.s1 h)).is

pub hold_cells2 : (x y : Float) (b : Bool) (s : DirectForm2Transposed) → T (fits binary64 y) → s.s2 ≡ zero_of b
    → after2 hold_of s x y
    ≡ record {
      s1 = zeros_joined (finite x) (b && negative x) y;
      s2 = zeros_joined (finite x && finite y) (negative x && negative y)
          (zero_of true);
    }
unfolding after2
hold_cells2 x y b s h e =
    let z = zero-fits true in
    let l : Leaves true b (zero_of true) s.s2 = record { is = e } in
    λ i. record { s1 = (onto y h (more x z l)).is i; s2 = (more y z (none_of x)).is i }
