-- With no offset and the widest limits the clamped forms are the plain ones: every output passes, and both halves are put back.
use mathlib.Core.Path.{◌≡◌, ap, ◌∙◌}
use Prim.Native.Nat.{◌-◌, ◌^◌}
use lib.IntN.{ℤ, pos, negsuc, ◌*ℤ◌, +ℤ_idr}
use mir.Syntax.{w32, w64}
use mir.Val.{SFits}
use Rattle.words.specs.Words.{floor_div}
use Rattle.words.proofs.Reading.{wrap_is, wrap-fits}
use Rattle.words.proofs.Sizes.{high_fits, not_below, not_above}
use Rattle.biquad_fixed.specs.declared.coefficients.Biquad.{Biquad}
use Rattle.biquad_fixed.specs.declared.coefficients.BiquadClamp.{BiquadClamp}
use Rattle.biquad_fixed.specs.declared.wide.DirectForm1Wide.{DirectForm1Wide}
use Rattle.biquad_fixed.specs.declared.dither.DirectForm1Dither.{DirectForm1Dither}
use Rattle.biquad_fixed.specs.Forms.{limited, overwritten, aligned, dither_error, wide_sum, wide_out, wide_next, wide_held}
use Rattle.biquad_fixed.specs.Forms.{wide_onward, dither_sum, dither_out, dither_next, dither_held, dither_onward}
use Rattle.words.proofs.Floors.{halves}

-- the crate's default
abbrev pub open_of : Biquad → BiquadClamp
open_of c = record { coeff = c; u = pos 0; min = negsuc 2147483647; max = pos 2147483647 }

passes : (c : Biquad) (y : ℤ) → SFits w32 y → limited (open_of c) y ≡ y
passes c y h = rw (+ℤ_idr y, wrap_is w32 y h, not_below y h, not_above y h)

-- an output is a word
output-fits : (c : Biquad) (sum : ℤ) → SFits w32 (floor_div (aligned c sum) (2 ^ 32))
output-fits c sum = high_fits (aligned c sum) (wrap-fits w64 (sum *ℤ pos (2 ^ (32 - c.f))))

module _ (c : Biquad) (x : ℤ) where
  abbrev wide_with : DirectForm1Wide → ℤ → DirectForm1Wide
  wide_with s y = record { x1 = x; x2 = s.x1; y1 = y; y2 = s.y1 }

  abbrev dither_with : DirectForm1Dither → ℤ → DirectForm1Dither
  dither_with s y = record { x1 = x; x2 = s.x1; y1 = y; y2 = s.y1; e = dither_error c s x }

  pub wide_open : (s : DirectForm1Wide) → wide_held (open_of c) s x ≡ wide_out c s x
  wide_open s = passes c (wide_out c s x) (output-fits c (wide_sum c s x))

  pub wide_open_next : (s : DirectForm1Wide) → wide_onward (open_of c) s x ≡ wide_next c s x
  wide_open_next s =
      ap (wide_with s)
      (ap (overwritten (wide_next c s x).y1) (wide_open s) ∙ halves (wide_next c s x).y1)

  pub dither_open : (s : DirectForm1Dither) → dither_held (open_of c) s x ≡ dither_out c s x
  dither_open s = passes c (dither_out c s x) (wrap-fits w32 (floor_div (dither_sum c s x) (2 ^ c.f)))

  pub dither_open_next : (s : DirectForm1Dither) → dither_onward (open_of c) s x ≡ dither_next c s x
  dither_open_next s = ap (dither_with s) (dither_open s)
