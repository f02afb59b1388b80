-- The loops over a block, turn by turn, from what a step on lent arrays promises; and the two ways to cut a part out of a list.
use mathlib.Core.Path.{◌≡◌, refl, ap, ◌∙◌}
use mathlib.Core.List.{List, [], ◌∷◌, ◌++◌}
use mathlib.Core.Option.{Option, none, some}
use Prim.Native.Nat.{ℕ, zero, suc, ◌+◌, ◌-◌, ◌<◌, ◌≤◌}
use native.Mathlib.Nat.{sub-zero, zero-sub, suc-sub-suc}
use native.Mathlib.Omega.{arith}
use lib.ListN.{length, get_or, take, drop, set, replicate}
use lib.Seq.{slice, take-nil}
use Rattle.sums.specs.Ops.{Ops}
use Rattle.sums.specs.Machine.{Output}
use Rattle.sums.specs.State.{State}
use Rattle.sums.proofs.Steps.{Fit}
use Rattle.sums.proofs.Counts.{outputs-length}
use Rattle.sums.proofs.Blocks.{Held, held_none, held-room, held_one, end_state, end_count, end_out}
use Rattle.sums.proofs.Stretches.{ran, tops, jump_waits}
use Rattle.sums.proofs.Fills.{Filling, filling_same, filling_turn, filled_state, filled_count, filled_out}
use Rattle.sums.proofs.Lent.{Figures, Ring, ringed, rested, DecimateRun, DecimateStretch, DecimateRest}
use Rattle.sums.proofs.Lent.{InterpolateRun, InterpolateSample, InterpolateRest, IntegrateOutputs}

-- a turn of the decimator's loop: a stretch
module _ {A : Type 0} (o : Ops A) (n : ℕ) (xs out₀ out : List A) (s₀ s : State A) (k i : ℕ) (a : Held o xs out₀ out s₀ s k i)
    (t : Figures A) (is ks : List A) (at : ℕ) (g : Option (Output A)) (j : ℕ) (r : DecimateStretch o n xs s i t is ks at g j) where
  pub decimate-none : g ≡ none → Held o xs out₀ out s₀ (ringed t is ks at) k j
  decimate-none e = held_none o xs out₀ s₀ out s (ringed t is ks at) k i j g a r.jump e

  module _ (y : A) (u : ℕ) (e : g ≡ some (record { value = y; told = u })) where
    pub decimate-room : k < length out
    decimate-room = held-room o xs out₀ s₀ out s (ringed t is ks at) k i j g a r.jump (record { value = y; told = u }) e

    pub decimate-one : (v : A) → v ≡ y → Held o xs out₀ (set out k v) s₀ (ringed t is ks at) (k + 1) j
    decimate-one v ev = held_one o xs out₀ s₀ out s (ringed t is ks at) k i j g a r.jump (record { value = y; told = u }) e v ev

-- the end of the decimator's loop: no output falls on the inputs from i on
module _ {A : Type 0} (o : Ops A) (n : ℕ) (xs out₀ out : List A) (s₀ : State A) (f : Fit s₀) (s : Figures A) (is ks : List A) (at k i : ℕ)
    (a : Held o xs out₀ out s₀ (ringed s is ks at) k i) (g : Ring n at s ks) (q : length xs - i ≤ s.countdown)
    (t : Figures A) (is' : List A) (r : DecimateRest o n xs i s is t is') where
  over_all : Held o xs out₀ out s₀ (ringed t is' ks at) k (length xs)
  over_all =
      rw r.numbers
      (held_none o xs out₀ s₀ out (ringed s is ks at) (ringed (rested s (length xs - i)) is' ks at) k i (length xs) none a
      (jump_waits o xs i (ringed s is ks at) a.fit a.within q (s.countdown - (length xs - i)) refl s.hold refl is'
      (r.cells ∙ ap (λ m. ran o m (slice i (length xs) xs) is) g.order)) refl)

  pub decimate-ends : Ring n at t ks × DecimateRun o s₀ xs out₀ (ringed t is' ks at) k out
  decimate-ends = (
    rw r.numbers (record { order = g.order; few = g.few; short = g.short; inside = g.inside; long = g.long }),
    record {
      state = end_state o xs out₀ s₀ out (ringed t is' ks at) k (length xs) over_all (omega arith);
      count = end_count o xs out₀ s₀ out (ringed t is' ks at) k (length xs) over_all (omega arith) ∙ outputs-length o s₀ f xs;
      wrote = end_out o xs out₀ s₀ out (ringed t is' ks at) k (length xs) over_all (omega arith);
    },
  )

-- a turn of the interpolator's loop: the hold's outputs, then a sample
module _ {A : Type 0} (o : Ops A) (n : ℕ) (xs out₀ out : List A) (s₀ : State A) (s : Figures A) (is ks : List A) (at k i : ℕ)
    (a : Filling o xs out₀ out s₀ (ringed s is ks at) k i) (g : Ring n at s ks) where
  tops_of : (e : ℕ) (is' left : List A) → IntegrateOutputs o n s.hold i e is out is' left
      → left ≡ take i out ++ (tops o s.order (replicate (e - i) s.hold) is ++ drop e out)
  tops_of e is' left c = c.wrote ∙ ap (λ m. take i out ++ (tops o m (replicate (e - i) s.hold) is ++ drop e out)) g.order

  cells_of : (e : ℕ) (is' left : List A) → IntegrateOutputs o n s.hold i e is out is' left → is'
      ≡ ran o s.order (replicate (e - i) s.hold) is
  cells_of e is' left c = c.cells ∙ ap (λ m. ran o m (replicate (e - i) s.hold) is) g.order

  pub interpolate_turn : s.countdown < length out₀ - i → (is' left : List A)
      → IntegrateOutputs o n s.hold i (i + s.countdown) is out is' left
      → (x : A) → x ≡ get_or xs k o.nil → (t : Figures A) (ks' : List A) (next : ℕ) → InterpolateSample o n at s ks x t ks' next
      → Filling o xs out₀ left s₀ (ringed t is' ks' next) (k + 1) (i + s.countdown)
  interpolate_turn h is' left c x ex t ks' next f =
      filling_turn o xs out₀ s₀ out (ringed s is ks at) k i a h left (tops_of (i + s.countdown) is' left c) x ex is'
      (cells_of (i + s.countdown) is' left c)
      (ringed t is' ks' next) (f.state is')

  -- the end: the hold's outputs fill the slice
  module _ (h : length out₀ - i ≤ s.countdown) (t : Figures A) (is' left : List A) (r : InterpolateRest o n i s is out t is' left) where
    pub interpolate-same : length left ≡ length out₀
    interpolate-same = filling_same o xs out₀ s₀ out (ringed s is ks at) k i a (length out) a.within (omega arith) left
        (tops_of (length out) is' left r.climb)

    pub interpolate-ends : Ring n at t ks × InterpolateRun o s₀ xs out₀ (ringed t is' ks at) k left
    interpolate-ends = (
      rw r.numbers (record { order = g.order; few = g.few; short = g.short; inside = g.inside; long = g.long }),
      record {
        state =
            filled_state o xs out₀ s₀ out (ringed s is ks at) k i a h left (tops_of (length out) is' left r.climb) (ringed t is' ks at)
            (rw (r.numbers, cells_of (length out) is' left r.climb));
        count = filled_count o xs out₀ s₀ out (ringed s is ks at) k i a h left (tops_of (length out) is' left r.climb);
        wrote = filled_out o xs out₀ s₀ out (ringed s is ks at) k i a h left (tops_of (length out) is' left r.climb);
      },
    )

-- a part taken and dropped is dropped and taken
pub window : {A : Type 0} (u w : ℕ) (l : List A) → take (w - u) (drop u l) ≡ drop u (take w l)
window zero w l = rw sub-zero
window (suc u) zero l = rw zero-sub
window (suc u) (suc w) [] = rw (suc-sub-suc, take-nil)
window (suc u) (suc w) (x ∷ l) = rw suc-sub-suc (window u w l)
