-- What stays: a prediction leaves all but the phase, and without coefficients neither frequency nor phase leaves zero.
use mathlib.Core.Path.{◌≡◌, refl}
use mathlib.Core.List.{List, [], ◌∷◌}
use lib.IntN.{ℤ, pos, zero-*ℤ}
use Rattle.words.specs.Words as W
use Rattle.unwrap.specs.declared.wrapping.Wrap.TheVariants.{None}
use Rattle.pll.specs.declared.PLL.{PLL}
use Rattle.pll.specs.declared.PLLState.{PLLState}
use Rattle.pll.specs.Loops.{frequency_of, predicted_of, lead_lag, tracked_next}

-- all but the phase is the same
pub record Beside (s t : PLLState) : Type 0 where
  pub clamp : t.clamp ≡ s.clamp
  pub z0 : t.z0 ≡ s.z0
  pub y0 : t.y0 ≡ s.y0
  pub f0 : t.f0 ≡ s.f0
  pub f : t.f ≡ s.f

pub predict_leaves : (s : PLLState) → Beside s (predicted_of s)
predict_leaves s = record { clamp = refl; z0 = refl; y0 = refl; f0 = refl; f = refl }

abbrev pub none : PLL
none = record { b0 = pos 0; b1 = pos 0; a1 = pos 0 }

abbrev pub rest : PLLState
rest = record { clamp = record { x0 = pos 0; clamp = None }; z0 = pos 0; y0 = pos 0; f0 = pos 0; f = pos 0; y = pos 0 }

-- an update with an input or without
pub data Update : Type 0 where
  input : ℤ → Update
  missing : Update

abbrev pub updated : PLL → PLLState → Update → PLLState
updated p s (input x) = tracked_next p s x
updated p s missing = predicted_of s

abbrev pub updates : PLL → PLLState → List Update → PLLState
updates p s [] = s
updates p s (u ∷ us) = updates p (updated p s u) us

pub record Quiet (s : PLLState) : Type 0 where
  pub wide : s.f0 ≡ pos 0
  pub frequency : s.f ≡ pos 0
  pub phase : s.y ≡ pos 0

lag_none : (y0 y1 : ℤ) → lead_lag none (pos 0) y0 y1 ≡ pos 0
unfolding lead_lag W.wrap W.word
lag_none y0 y1 = rw (zero-*ℤ y0, zero-*ℤ y1)

still : (s : PLLState) (u : Update) → Quiet s → Quiet (updated none s u)
unfolding tracked_next W.wrap W.word
still s (input x) q = record {
  wide = rw (q.wide, lag_none);
  frequency = rw (q.wide, lag_none, q.frequency);
  phase = rw (q.phase, q.frequency);
}
still s missing q = record { wide = q.wide; frequency = q.frequency; phase = rw (q.phase, q.frequency) }

quiet : (s : PLLState) (us : List Update) → Quiet s → Quiet (updates none s us)
quiet s [] q = q
quiet s (u ∷ us) q = quiet (updated none s u) us (still s u q)

-- from zero with zero coefficients the frequency stays zero, and so does the phase
pub stays_quiet : (us : List Update) → Quiet (updates none rest us)
stays_quiet us = quiet rest us (record { wide = refl; frequency = refl; phase = refl })

pub frequency_stays : (us : List Update) → frequency_of (updates none rest us) ≡ pos 0
frequency_stays us = rw (stays_quiet us).frequency
