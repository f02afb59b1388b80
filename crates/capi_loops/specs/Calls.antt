-- What the calls leave in the lent fields and answer: the number of a refusal, or 0. A refused call leaves everything as it was.
use Rattle.std.specs.Prelude.{◌≡◌, List, ℕ, ℤ, Option, Result, Ok, Err}
use Rattle.blocks.specs.declared.refusal.Refusal.{Refusal}
use Rattle.blocks.specs.Refusals.{number_in}
use Rattle.blocks.specs.Blocks.{lengths_number, unless}
use Rattle.blocks.specs.Scan.{scan, ends}
use Rattle.unwrap.specs.Phases.{clamp_out, clamp_next, difference_of}
use Rattle.unwrap.specs.Scales.{scaled_of}
use Rattle.pll.specs.declared.PLL.{PLL}
use Rattle.pll.specs.Loops.{tracked_phase, tracked_next, ahead_of, predicted_of}
use Rattle.rpll.specs.declared.RPLL.{RPLL}
use Rattle.rpll.specs.declared.RPLLConfig.{RPLLConfig}
use Rattle.rpll.specs.declared.Estimate.{Estimate}
use Rattle.rpll.specs.Loops.{processed_of}
use Rattle.capi_loops.specs.States.{Fields, clamp_at, wrap_number, pll_in, fields_of}

-- the value of an accepted call, or what stood
abbrev pub scaled_or : Result ℤ Refusal → ℤ → ℤ
scaled_or (Ok y) old = y
scaled_or (Err r) old = old

abbrev pub phase_or : Result Estimate Refusal → ℤ → ℤ
phase_or (Ok e) old = e.phase
phase_or (Err r) old = old

abbrev pub frequency_or : Result Estimate Refusal → ℤ → ℤ
frequency_or (Ok e) old = e.frequency
frequency_or (Err r) old = old

-- A clamp's block over x0 and clamp leaves u and v, and zs in the slice that was ys.
pub record Clamps (x0 : ℤ) (clamp : ℕ) (xs ys : List ℤ) (u : ℤ) (v : ℕ) (zs : List ℤ) (r : ℕ) : Type 0 where
  pub answer : r ≡ lengths_number 0 xs ys
  pub x0_left : u ≡ unless (lengths_number 0 xs ys) x0 (ends clamp_out clamp_next (clamp_at x0 clamp) xs).x0
  pub clamp_left : v ≡ unless (lengths_number 0 xs ys) clamp (wrap_number (ends clamp_out clamp_next (clamp_at x0 clamp) xs).clamp)
  pub written : zs ≡ unless (lengths_number 0 xs ys) ys (scan clamp_out clamp_next (clamp_at x0 clamp) xs)

-- A phase-locked loop's block over the fields s leaves t.
pub record Tracks (p : PLL) (s : Fields) (xs ys : List ℤ) (t : Fields) (zs : List ℤ) (r : ℕ) : Type 0 where
  pub answer : r ≡ lengths_number 0 xs ys
  pub state : t ≡ unless (lengths_number 0 xs ys) s (fields_of (ends (tracked_phase p) (tracked_next p) (pll_in s) xs))
  pub written : zs ≡ unless (lengths_number 0 xs ys) ys (scan (tracked_phase p) (tracked_next p) (pll_in s) xs)

-- A reciprocal loop's step, where phase and frequency stood as y and f, and stand as z and g.
pub record Locks (c : RPLLConfig) (s : RPLL) (x : Option ℤ) (y f : ℤ) (t : RPLL) (z g : ℤ) (r : ℕ) : Type 0 where
  pub answer : r ≡ number_in (processed_of c s x).estimate
  pub state : t ≡ (processed_of c s x).state
  pub phase : z ≡ phase_or (processed_of c s x).estimate y
  pub frequency : g ≡ frequency_or (processed_of c s x).estimate f

pub record Scales (lo hi : ℤ) (shift : ℕ) (y z : ℤ) (r : ℕ) : Type 0 where
  pub answer : r ≡ number_in (scaled_of lo hi shift)
  pub value : z ≡ scaled_or (scaled_of lo hi shift) y

-- y minus x and the sign of its wrap, which is left as v.
pub record Differs (y x : ℤ) (v : ℕ) (r : ℤ) : Type 0 where
  pub answer : r ≡ (difference_of y x).delta
  pub wrap : v ≡ wrap_number (difference_of y x).wrap

-- A phase-locked loop's phase without an input, left as y.
pub record Predicts (s : Fields) (y r : ℤ) : Type 0 where
  pub answer : r ≡ ahead_of (pll_in s)
  pub phase : y ≡ (predicted_of (pll_in s)).y
