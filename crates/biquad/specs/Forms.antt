-- 01, 'f64 biquad': the two direct forms, with and without clamp, as fixed sequences of rounded operations.
use Rattle.std.specs.Prelude.{cond, Float}
use Rattle.std.specs.Float.Ieee.{lt}
use Rattle.biquad.specs.Rounded.{◌⊕◌, ◌⊗◌, nought}
use Rattle.biquad.specs.Coefficients.{coeffs}
use Rattle.biquad.specs.declared.biquad.Biquad.{Biquad}
use Rattle.biquad.specs.declared.biquad_clamp.BiquadClamp.{BiquadClamp}
use Rattle.biquad.specs.declared.direct_form1.DirectForm1.{DirectForm1}
use Rattle.biquad.specs.declared.direct_form2_transposed.DirectForm2Transposed.{DirectForm2Transposed}

-- the clamp compares below lower, then above upper; a NaN passes
unfoldable pub clamp_to : Float → Float → Float → Float
clamp_to lower upper y = cond (lt y lower) lower (cond (lt upper y) upper y)

-- a sum with the offset added, then clamped
abbrev pub limited_of : BiquadClamp → Float → Float
limited_of c sum = clamp_to c.min c.max (sum ⊕ c.u)

-- Direct form 1: the sum, and the state once the output y is known.
unfoldable pub sum1 : Biquad → DirectForm1 → Float → Float
sum1 c s x = c.b0 ⊗ x ⊕ c.b1 ⊗ s.x1 ⊕ c.b2 ⊗ s.x2 ⊕ c.a1 ⊗ s.y1 ⊕ c.a2 ⊗ s.y2

abbrev pub after1 : DirectForm1 → Float → Float → DirectForm1
after1 s x y = record { x1 = x; x2 = s.x1; y1 = y; y2 = s.y1 }

-- Direct form 2 transposed: the sum, and the cells once the output y is known.
unfoldable pub sum2 : Biquad → DirectForm2Transposed → Float → Float
sum2 c s x = s.s1 ⊕ c.b0 ⊗ x

unfoldable pub after2 : Biquad → DirectForm2Transposed → Float → Float → DirectForm2Transposed
after2 c s x y = record { s1 = s.s2 ⊕ c.b1 ⊗ x ⊕ c.a1 ⊗ y; s2 = c.b2 ⊗ x ⊕ c.a2 ⊗ y }

-- without clamp the sum is the output
abbrev pub next1 : Biquad → DirectForm1 → Float → DirectForm1
next1 c s x = after1 s x (sum1 c s x)

abbrev pub next2 : Biquad → DirectForm2Transposed → Float → DirectForm2Transposed
next2 c s x = after2 c s x (sum2 c s x)

-- what a step leaves and gives
pub record Stepped (S : Type 0) : Type 0 where
  pub state : S
  pub y : Float

abbrev pub stepped1 : Biquad → DirectForm1 → Float → Stepped DirectForm1
stepped1 c s x = record { state = next1 c s x; y = sum1 c s x }

abbrev pub stepped2 : Biquad → DirectForm2Transposed → Float → Stepped DirectForm2Transposed
stepped2 c s x = record { state = next2 c s x; y = sum2 c s x }

-- with clamp the limited sum is the output, and it goes into the state
abbrev pub held1 : BiquadClamp → DirectForm1 → Float → Float
held1 c s x = limited_of c (sum1 (coeffs c) s x)

abbrev pub onward1 : BiquadClamp → DirectForm1 → Float → DirectForm1
onward1 c s x = after1 s x (held1 c s x)

abbrev pub held2 : BiquadClamp → DirectForm2Transposed → Float → Float
held2 c s x = limited_of c (sum2 (coeffs c) s x)

abbrev pub onward2 : BiquadClamp → DirectForm2Transposed → Float → DirectForm2Transposed
onward2 c s x = after2 (coeffs c) s x (held2 c s x)

-- the states before any input, and direct form 1 with its outputs set
abbrev pub zero1 : DirectForm1
zero1 = record { x1 = nought; x2 = nought; y1 = nought; y2 = nought }

abbrev pub zero2 : DirectForm2Transposed
zero2 = record { s1 = nought; s2 = nought }

abbrev pub with_y1 : DirectForm1 → Float → DirectForm1
with_y1 s y = record { x1 = s.x1; x2 = s.x2; y1 = y; y2 = y }
