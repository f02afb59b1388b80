-- The fresh filters that the exports start from, and the steps that they take one by one.
use Rattle.std.specs.Prelude.{Bool, List, ℕ, ℤ, pos, replicate, Float, Result, Ok, Err, Option, Some, None}
use Rattle.std.specs.Int.{w32}
use Rattle.blocks.specs.Scan.{scan}
use Rattle.blocks.specs.Blocks.{lengths_number, unless}
use Rattle.sums.specs.Ops.{Ops}
use Rattle.sums.specs.Counted.{new_counted, take_state}
use Rattle.sums.specs.Signed.{signed_ops}
use Rattle.cic.specs.Reading.{cic_of, counted_of}
use Rattle.cic.specs.declared.state.Cic.{Cic}
use Rattle.lent.specs.Answers as Lent
use Rattle.lent.specs.declared.steps.Output.{Output}
use Rattle.dsm.specs.declared.Dsm.{Dsm}
use Rattle.dsm.specs.Calls.{order_number, zeros_of}
use Rattle.wdf.specs.declared.filter.Wdf.{Wdf}
use Rattle.wdf.specs.Calls.{sections_number, none, filter}
use Rattle.biquad.specs.declared.biquad.Biquad.{Biquad}
use Rattle.biquad.specs.declared.biquad_clamp.BiquadClamp.{BiquadClamp}
use Rattle.biquad_fixed.specs.declared.coefficients.Biquad as Fixed
use Rattle.biquad_fixed.specs.declared.coefficients.BiquadClamp as FixedClamp
use Rattle.biquad_fixed.specs.declared.wide.DirectForm1Wide.{DirectForm1Wide}
use Rattle.biquad_fixed.specs.declared.dither.DirectForm1Dither.{DirectForm1Dither}
use Rattle.unwrap.specs.declared.clamp_wrap.ClampWrap.{ClampWrap}
use Rattle.unwrap.specs.declared.unwrapper.Unwrapper.{Unwrapper}
use Rattle.unwrap.specs.declared.wrapping.Wrap.TheVariants as Wrap
use Rattle.std.specs.Result.{result_unwrap_or}
use Rattle.blocks.specs.declared.refusal.Refusal.{Refusal}
use Rattle.unwrap.specs.Scales.{scaled_of}
use Rattle.pll.specs.declared.PLL.{PLL}
use Rattle.pll.specs.declared.PLLState.{PLLState}
use Rattle.rpll.specs.declared.RPLL.{RPLL}
use Rattle.rpll.specs.declared.RPLLConfig.{RPLLConfig}
use Rattle.rpll.specs.Loops.{updated_of}
use Rattle.rpll.specs.Blocks.{stamps, phase_after, frequency_after, block_number}

-- What a block leaves in the lent slice ys: the outputs, or all as it was where the slices or the filter (k) refuse.
abbrev pub block_left : {S A B : Type 0} → ℕ → (S → A → B) → (S → A → S) → S → List A → List B → List B
block_left k out next s xs ys = unless (lengths_number k xs ys) ys (scan out next s xs)

-- The same of a filter with coefficients c.
abbrev pub block_left_by : {C S A B : Type 0} → (C → ℕ) → (C → S → A → B) → (C → S → A → S) → C → S → List A → List B → List B
block_left_by k out next c s xs ys = block_left (k c) (out c) (next c) s xs ys

-- Decimator and interpolator, of the words that o sums.
abbrev pub fresh_cic : {A : Type 0} → Ops A → ℕ → ℕ → ℕ → Cic A
fresh_cic o order delay rate = cic_of (new_counted o order delay rate)

unfoldable pub given_in : Result (Option (Output ℤ)) Refusal → ℤ
given_in (Ok (Some y)) = y.value
given_in (Ok None) = pos 0
given_in (Err r) = pos 0

abbrev pub step_out : Cic ℤ → ℤ → ℤ
step_out s x = given_in (Lent.step_out (signed_ops w32) (counted_of s) x)

abbrev pub step_next : Cic ℤ → ℤ → Cic ℤ
step_next s x = cic_of (take_state (signed_ops w32) (counted_of s) x)

-- The modulator, which an order above 8 makes as 0 does.
abbrev pub fresh_dsm : ℕ → Dsm
fresh_dsm order = unless (order_number order) (zeros_of 0) (zeros_of order)

-- Sections and biquads.
abbrev pub alike_wdf : ℕ → ℕ → ℤ → Wdf
alike_wdf sections architecture a =
    unless (sections_number sections architecture) none (filter sections architecture (replicate 8 a) (replicate 8 (pos 0)))

abbrev pub float_biquad : Float → Float → Float → Float → Float → Biquad
float_biquad b0 b1 b2 a1 a2 = record { b0 = b0; b1 = b1; b2 = b2; a1 = a1; a2 = a2 }

abbrev pub float_clamp : Float → Float → Float → Float → Float → Float → Float → Float → BiquadClamp
float_clamp b0 b1 b2 a1 a2 u min max = record { b0 = b0; b1 = b1; b2 = b2; a1 = a1; a2 = a2; u = u; min = min; max = max }

abbrev pub word_biquad : ℤ → ℤ → ℤ → ℤ → ℤ → ℕ → Fixed.Biquad
word_biquad b0 b1 b2 a1 a2 f = record { b0 = b0; b1 = b1; b2 = b2; a1 = a1; a2 = a2; f = f }

abbrev pub word_clamp : Fixed.Biquad → ℤ → ℤ → ℤ → FixedClamp.BiquadClamp
word_clamp coeff u min max = record { coeff = coeff; u = u; min = min; max = max }

abbrev pub zero_wide : DirectForm1Wide
zero_wide = record { x1 = pos 0; x2 = pos 0; y1 = pos 0; y2 = pos 0 }

abbrev pub zero_dither : DirectForm1Dither
zero_dither = record { x1 = pos 0; x2 = pos 0; y1 = pos 0; y2 = pos 0; e = 0 }

-- Phase words.
abbrev pub zero_clamp : ClampWrap
zero_clamp = record { x0 = pos 0; clamp = Wrap.None }

abbrev pub zero_unwrapper : Unwrapper
zero_unwrapper = record { y = pos 0 }

abbrev pub value_in : Result ℤ Refusal → ℤ
value_in r = result_unwrap_or r (pos 0)

abbrev pub scale_out : ℕ → ℤ → ℤ → ℤ
scale_out shift hi lo = value_in (scaled_of lo hi shift)

abbrev pub scale_next : ℤ → ℤ → ℤ
scale_next hi lo = hi

-- Loops.
abbrev pub zero_pll : PLLState
zero_pll = record { clamp = zero_clamp; z0 = pos 0; y0 = pos 0; f0 = pos 0; f = pos 0; y = pos 0 }

abbrev pub loop_of : ℤ → ℤ → ℤ → PLL
loop_of b0 b1 a1 = record { b0 = b0; b1 = b1; a1 = a1 }

abbrev pub configured : ℕ → ℕ → ℕ → RPLLConfig
configured dt2 frequency phase = record { dt2 = dt2; shift_frequency = frequency; shift_phase = phase }

abbrev pub zero_rpll : RPLL
zero_rpll = record { x = pos 0; ff = 0; f = 0; y = pos 0 }

-- What a reciprocal loop's block leaves in the slices lent for phases and for frequencies.
abbrev pub phases_left : RPLLConfig → List Bool → List ℤ → List ℤ → List ℤ → List ℤ
phases_left c there xs ys fs = unless (block_number c there xs ys fs) ys (scan (phase_after c) (updated_of c) zero_rpll (stamps there xs))

abbrev pub frequencies_left : RPLLConfig → List Bool → List ℤ → List ℤ → List ℤ → List ℤ
frequencies_left c there xs ys fs = unless (block_number c there xs ys fs) fs (scan (frequency_after c) (updated_of c) zero_rpll (stamps there xs))
