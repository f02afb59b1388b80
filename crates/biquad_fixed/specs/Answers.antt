-- Every call by its number (0: accepted), its answer and its state. A refused call hands back the given state.
use Rattle.std.specs.Prelude.{cond, ◌||◌, ℕ, ltb, ℤ, Result}
use Rattle.std.specs.Int.Signed.{lt_z}
use Rattle.blocks.specs.declared.refusal.Refusal.{Refusal}
use Rattle.blocks.specs.Refusals.{answer}
use Rattle.blocks.specs.Blocks.{unless}
use Rattle.biquad_fixed.specs.declared.coefficients.Biquad.{Biquad}
use Rattle.biquad_fixed.specs.declared.coefficients.BiquadClamp.{BiquadClamp}
use Rattle.biquad_fixed.specs.declared.wide.DirectForm1Wide.{DirectForm1Wide}
use Rattle.biquad_fixed.specs.declared.dither.DirectForm1Dither.{DirectForm1Dither}
use Rattle.biquad_fixed.specs.Forms.{wide_out, wide_next, wide_held, wide_onward, dither_out, dither_next, dither_held, dither_onward}

-- what a step leaves and answers
pub record Stepped (S : Type 0) : Type 0 where
  pub state : S
  pub out : Result ℤ Refusal

-- 40: fraction bits outside least .. 31, where least is 0 for wide and 1 for dither
abbrev pub fraction_number : ℕ → Biquad → ℕ
fraction_number least c = cond (ltb c.f least || ltb 31 c.f) 40 0

-- 41: lower limit above upper. The tests run in ascending number.
abbrev pub clamp_number : ℕ → BiquadClamp → ℕ
clamp_number least c = unless (fraction_number least c.coeff) (fraction_number least c.coeff) (cond (lt_z c.max c.min) 41 0)

abbrev pub wide_of : Biquad → DirectForm1Wide → ℤ → Stepped DirectForm1Wide
wide_of c s x = record { state = unless (fraction_number 0 c) s (wide_next c s x); out = answer (fraction_number 0 c) (wide_out c s x) }

abbrev pub wide_clamp_of : BiquadClamp → DirectForm1Wide → ℤ → Stepped DirectForm1Wide
wide_clamp_of c s x = record { state = unless (clamp_number 0 c) s (wide_onward c s x); out = answer (clamp_number 0 c) (wide_held c s x) }

abbrev pub dither_of : Biquad → DirectForm1Dither → ℤ → Stepped DirectForm1Dither
dither_of c s x = record { state = unless (fraction_number 1 c) s (dither_next c s x); out = answer (fraction_number 1 c) (dither_out c s x) }

abbrev pub dither_clamp_of : BiquadClamp → DirectForm1Dither → ℤ → Stepped DirectForm1Dither
dither_clamp_of c s x = record {
  state = unless (clamp_number 1 c) s (dither_onward c s x);
  out = answer (clamp_number 1 c)
      (dither_held c s x);
}
