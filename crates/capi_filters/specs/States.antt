-- The filters' states and coefficients, put together of the fields that their caller keeps and lends.
use Rattle.std.specs.Prelude.{List, ℕ, ℤ, Float}
use Rattle.unwrap.specs.declared.unwrapper.Unwrapper.{Unwrapper}
use Rattle.wdf.specs.declared.filter.Wdf.{Wdf}
use Rattle.dsm.specs.declared.Dsm.{Dsm}
use Rattle.biquad.specs.declared.direct_form1.DirectForm1.{DirectForm1}
use Rattle.biquad.specs.declared.direct_form2_transposed.DirectForm2Transposed.{DirectForm2Transposed}
use Rattle.biquad_fixed.specs.declared.wide.DirectForm1Wide.{DirectForm1Wide}
use Rattle.biquad_fixed.specs.declared.dither.DirectForm1Dither.{DirectForm1Dither}
use Rattle.biquad.specs.declared.biquad.Biquad.{Biquad}
use Rattle.biquad.specs.declared.biquad_clamp.BiquadClamp.{BiquadClamp}
use Rattle.biquad_fixed.specs.declared.coefficients.Biquad as Fixed
use Rattle.biquad_fixed.specs.declared.coefficients.BiquadClamp as FixedClamp

abbrev pub unwrapper_at : ℤ → Unwrapper
unwrapper_at y = record { y = y }

abbrev pub wdf_at : ℕ → ℕ → List ℤ → List ℤ → Wdf
wdf_at sections architecture a z = record { sections = sections; architecture = architecture; a = a; z = z }

abbrev pub dsm_at : ℕ → List ℕ → List ℤ → Dsm
dsm_at order accumulators retained = record { order = order; accumulators = accumulators; retained = retained }

abbrev pub df1_at : Float → Float → Float → Float → DirectForm1
df1_at x1 x2 y1 y2 = record { x1 = x1; x2 = x2; y1 = y1; y2 = y2 }

abbrev pub df2t_at : Float → Float → DirectForm2Transposed
df2t_at s1 s2 = record { s1 = s1; s2 = s2 }

abbrev pub wide_at : ℤ → ℤ → ℤ → ℤ → DirectForm1Wide
wide_at x1 x2 y1 y2 = record { x1 = x1; x2 = x2; y1 = y1; y2 = y2 }

abbrev pub dither_at : ℤ → ℤ → ℤ → ℤ → ℕ → DirectForm1Dither
dither_at x1 x2 y1 y2 e = record { x1 = x1; x2 = x2; y1 = y1; y2 = y2; e = e }

abbrev pub float_at : Float → Float → Float → Float → Float → Biquad
float_at b0 b1 b2 a1 a2 = record { b0 = b0; b1 = b1; b2 = b2; a1 = a1; a2 = a2 }

abbrev pub float_clamp_at : Float → Float → Float → Float → Float → Float → Float → Float → BiquadClamp
float_clamp_at b0 b1 b2 a1 a2 u min max = record { b0 = b0; b1 = b1; b2 = b2; a1 = a1; a2 = a2; u = u; min = min; max = max }

abbrev pub word_at : ℤ → ℤ → ℤ → ℤ → ℤ → ℕ → Fixed.Biquad
word_at b0 b1 b2 a1 a2 f = record { b0 = b0; b1 = b1; b2 = b2; a1 = a1; a2 = a2; f = f }

abbrev pub word_clamp_at : ℤ → ℤ → ℤ → ℤ → ℤ → ℕ → ℤ → ℤ → ℤ → FixedClamp.BiquadClamp
word_clamp_at b0 b1 b2 a1 a2 f u min max = record { coeff = word_at b0 b1 b2 a1 a2 f; u = u; min = min; max = max }
