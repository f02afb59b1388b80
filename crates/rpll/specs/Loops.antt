-- 01, 'Sections and loops': the RPLL's step follows the code, every sum and product modulo its width.
-- Each line of the code stands here by its meaning.
use Rattle.std.specs.Prelude.{cond, ◌||◌, ℕ, ◌+◌, ◌-◌, ◌/◌, ◌^◌, ltb, leb, ℤ, pos, neg_ℤ, ◌+ℤ◌, ◌-ℤ◌, ◌*ℤ◌, Option, Some, None, Result, Ok}
use Rattle.std.specs.Int.{w32}
use Rattle.words.specs.Words.{mod_ℤ, word, wrap, floor_div}
use Rattle.rpll.specs.declared.RPLL.{RPLL}
use Rattle.rpll.specs.declared.RPLLConfig.{RPLLConfig}
use Rattle.rpll.specs.declared.Estimate.{Estimate}
use Rattle.blocks.specs.declared.refusal.Refusal.{Refusal}
use Rattle.blocks.specs.Refusals.{answer}
use Rattle.blocks.specs.Blocks.{unless}

-- 60: dt2 above 30. 61: shift_frequency not above dt2, or above 32. 62: shift_phase below dt2 or above dt2 + 31.
-- 0 where it is none of them.
unfoldable pub config_number : RPLLConfig → ℕ
config_number c =
    cond (ltb 30 c.dt2) 60
    (cond (leb c.shift_frequency c.dt2 || ltb 32 c.shift_frequency) 61
    (cond (ltb c.shift_phase c.dt2 || ltb (c.dt2 + 31) c.shift_phase) 62 0))

-- reference period in counter cycles: from the previous timestamp to this
abbrev pub period_of : ℤ → ℤ → ℤ
period_of before x = wrap w32 (x -ℤ before)

-- phase over the period dx at the frequency ff, divided by 2 ^ shift_frequency and rounded, a half upwards
abbrev pub signal_phase : ℕ → ℤ → ℕ → ℕ
signal_phase ff dx shift = word w32 (floor_div (pos ff *ℤ dx +ℤ pos (2 ^ (shift - 1))) (2 ^ shift))

-- phase of the reference over its period, 2 ^ dt2 full turns, divided by the same
abbrev pub reference_phase : ℕ → ℕ → ℕ
reference_phase dt2 shift = 2 ^ (32 + dt2 - shift)

-- frequency lock: ff grows by what the signal's phase lacks
unfoldable pub locked_of : ℕ → ℤ → ℕ → ℕ → ℕ
locked_of ff dx dt2 shift = word w32 (pos ff +ℤ (pos (reference_phase dt2 shift) -ℤ pos (signal_phase ff dx shift)))

-- time in counter cycles from the timestamp x to now, the next multiple of 2 ^ dt2
abbrev pub elapsed : ℤ → ℕ → ℕ
elapsed x dt2 = mod_ℤ (neg_ℤ x) (2 ^ dt2)

-- phase of the reference now: the frequency in a counter cycle, for as many cycles
abbrev pub expected_phase : ℕ → ℤ → ℕ → ℤ
expected_phase f x dt2 = wrap w32 (pos (f / 2 ^ dt2) *ℤ pos (elapsed x dt2))

-- phase error with gain
unfoldable pub error_of : ℕ → ℤ → ℤ → ℕ → ℕ → ℤ
error_of f x y dt2 shift = floor_div (wrap w32 (expected_phase f x dt2 -ℤ y)) (2 ^ (shift - dt2))

-- the phase advances by the frequency
abbrev pub advanced_of : RPLL → RPLL
advanced_of s = record { x = s.x; ff = s.ff; f = s.f; y = wrap w32 (s.y +ℤ pos s.f) }

-- a timestamp x, once the phase has advanced: it is stored, and the frequency comes from the lock and the phase error
abbrev pub frequency_locked : RPLLConfig → RPLL → ℤ → ℕ
frequency_locked c s x = locked_of s.ff (period_of s.x x) c.dt2 c.shift_frequency

abbrev pub phase_error : RPLLConfig → RPLL → ℤ → ℤ
phase_error c s x = error_of s.f x s.y c.dt2 c.shift_phase

abbrev pub taken_of : RPLLConfig → RPLL → ℤ → RPLL
taken_of c s x = record {
  x = x;
  ff = frequency_locked c s x;
  f = word w32 (pos (frequency_locked c s x) +ℤ phase_error c s x);
  y = s.y;
}

-- a step, with a timestamp or without
abbrev pub updated_of : RPLLConfig → RPLL → Option ℤ → RPLL
updated_of c s (Some x) = taken_of c (advanced_of s) x
updated_of c s None = advanced_of s

-- phase and frequency together, the frequency read as signed
abbrev pub estimate_of : RPLL → Estimate
estimate_of s = record { phase = s.y; frequency = wrap w32 (pos s.f) }

-- what a call leaves and what it gives
pub record Processed : Type 0 where
  pub state : RPLL
  pub estimate : Result Estimate Refusal

abbrev pub estimated_of : RPLL → Processed
estimated_of s = record { state = s; estimate = Ok (estimate_of s) }

-- a refused call leaves the given state
abbrev pub processed_of : RPLLConfig → RPLL → Option ℤ → Processed
processed_of c s t = record {
  state = unless (config_number c) s (updated_of c s t);
  estimate = answer (config_number c) (estimate_of (updated_of c s t));
}
