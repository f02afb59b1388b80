-- 01, 'Sections and loops': the PLL's step follows the code, every sum and product modulo its width.
-- Each line of the code stands here by its meaning.
use Rattle.std.specs.Prelude.{◌^◌, ℤ, ◌+ℤ◌, ◌*ℤ◌}
use Rattle.std.specs.Int.{w32, w64}
use Rattle.words.specs.Words.{wrap, floor_div}
use Rattle.unwrap.specs.Phases.{clamp_out, clamp_next}
use Rattle.pll.specs.declared.PLL.{PLL}
use Rattle.pll.specs.declared.PLLState.{PLLState}

-- the frequency: the high word of the wide one
abbrev pub frequency_of : PLLState → ℤ
frequency_of s = floor_div s.f (2 ^ 32)

-- predict: the phase advances by the frequency, and all else stays
abbrev pub ahead_of : PLLState → ℤ
ahead_of s = wrap w32 (s.y +ℤ frequency_of s)

abbrev pub predicted_of : PLLState → PLLState
predicted_of s = record { clamp = s.clamp; z0 = s.z0; y0 = s.y0; f0 = s.f0; f = s.f; y = ahead_of s }

-- phase error: the sum of the input and the phase, through the clamp; then half of it, rounded down
abbrev pub error_sum : PLLState → ℤ → ℤ
error_sum s x = wrap w32 (x +ℤ ahead_of s)

abbrev pub clamped_sum : PLLState → ℤ → ℤ
clamped_sum s x = clamp_out s.clamp (error_sum s x)

abbrev pub halved_error : PLLState → ℤ → ℤ
halved_error s x = floor_div (clamped_sum s x) 2

-- Nyquist zero: the sum of the last two errors
abbrev pub after_zero : PLLState → ℤ → ℤ
after_zero s x = wrap w32 (halved_error s x +ℤ s.z0)

-- a1 times the wide state, divided by 2 ^ 32, rounded down
abbrev pub lag_product : ℤ → ℤ → ℤ
lag_product a1 f0 = floor_div (a1 *ℤ f0) (2 ^ 32)

-- lead lag, wide state
unfoldable pub lead_lag : PLL → ℤ → ℤ → ℤ → ℤ
lead_lag p f0 y0 y1 = wrap w64 (f0 +ℤ (p.b0 *ℤ y0 +ℤ p.b1 *ℤ y1 +ℤ lag_product p.a1 f0))

abbrev pub after_lag : PLL → PLLState → ℤ → ℤ
after_lag p s x = lead_lag p s.f0 (after_zero s x) s.y0

-- DC pole, frequency, wide state
abbrev pub after_pole : PLL → PLLState → ℤ → ℤ
after_pole p s x = wrap w64 (s.f +ℤ after_lag p s x)

-- the step
unfoldable pub tracked_phase : PLL → PLLState → ℤ → ℤ
tracked_phase p s x = ahead_of s

unfoldable pub tracked_next : PLL → PLLState → ℤ → PLLState
tracked_next p s x = record {
  clamp = clamp_next s.clamp (error_sum s x);
  z0 = halved_error s x;
  y0 = after_zero s x;
  f0 = after_lag p s x;
  f = after_pole p s x;
  y = ahead_of s;
}
