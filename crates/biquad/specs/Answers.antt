-- 01, 'Refusal numbers' 41 and 42: what the clamped step and the offset answer, by number. 0 says that there is none.
use Rattle.std.specs.Prelude.{cond, ◌||◌, ℕ, Float, Result}
use Rattle.std.specs.Float.Ieee.{lt, eq, is_nan}
use Rattle.blocks.specs.declared.refusal.Refusal.{Refusal}
use Rattle.blocks.specs.Refusals.{answer}
use Rattle.blocks.specs.Blocks.{unless}
use Rattle.biquad.specs.Rounded.{◌⊘◌, nought}
use Rattle.biquad.specs.Coefficients.{coeffs, forward_gain}
use Rattle.biquad.specs.Forms.{held1, onward1, held2, onward2}
use Rattle.biquad.specs.declared.biquad_clamp.BiquadClamp.{BiquadClamp}
use Rattle.biquad.specs.declared.direct_form1.DirectForm1.{DirectForm1}
use Rattle.biquad.specs.declared.direct_form2_transposed.DirectForm2Transposed.{DirectForm2Transposed}

-- the value where there is no refusal, else the number alone
abbrev pub answer_of : ℕ → Float → Result Float Refusal
answer_of k v = answer k v

-- 41: lower limit above upper, or a NaN limit
abbrev pub limit_number : BiquadClamp → ℕ
limit_number c = cond (lt c.max c.min || is_nan c.min || is_nan c.max) 41 0

-- 42: forward gain equal to zero, which -0.0 is too and a NaN is not
abbrev pub zero_gain_number : BiquadClamp → ℕ
zero_gain_number c = cond (eq (forward_gain (coeffs c)) nought) 42 0

abbrev pub offset_of : BiquadClamp → Result Float Refusal
offset_of c = answer_of (zero_gain_number c) (c.u ⊘ forward_gain (coeffs c))

-- what a clamped step leaves and answers
pub record Clamped (S : Type 0) : Type 0 where
  pub state : S
  pub out : Result Float Refusal

-- a refused step leaves the given state
abbrev pub clamped1 : BiquadClamp → DirectForm1 → Float → Clamped DirectForm1
clamped1 c s x = record { state = unless (limit_number c) s (onward1 c s x); out = answer_of (limit_number c) (held1 c s x) }

abbrev pub clamped2 : BiquadClamp → DirectForm2Transposed → Float → Clamped DirectForm2Transposed
clamped2 c s x = record { state = unless (limit_number c) s (onward2 c s x); out = answer_of (limit_number c) (held2 c s x) }
