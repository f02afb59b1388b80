-- The ways of a step on lent arrays: what the loops have shown is what the rules ask.
use mathlib.Core.Path.{◌≡◌, refl, ◌∙◌}
use mathlib.Core.List.{List, [], ◌∷◌}
use mathlib.Core.Option.{Option, none, some}
use Prim.Native.Nat.{ℕ, zero, suc, ◌-◌, ◌≤◌, ◌<◌}
use native.Mathlib.Omega.{arith}
use borrow.Author.Tests.{ne_eqb}
use Rattle.sums.specs.Ops.{Ops}
use Rattle.sums.specs.State.{State, refusal}
use Rattle.sums.specs.Calls.{rise_number}
use Rattle.sums.specs.Runs.{due_sample}
use Rattle.sums.proofs.Steps.{Fit, fitted, accepted, packed, turn_waits, turn_gives, rise_on, rise_due}
use Rattle.sums.proofs.Lent.{Integrates, Combs, Ready, DecimateStep, InterpolateStep}

pub fit : {A : Type 0} (s : State A) → Ready s → Fit s
fit s r = fitted s r.accepted r.long8 r.long64

pub ready : {A : Type 0} (s : State A) → Fit s → Ready s
ready s f = record { accepted = accepted s f; long8 = f.long8; long64 = f.long64 }

-- the decimator's two ways
module _ {A : Type 0} (o : Ops A) (s : State A) (r : Ready s) (x : A) (is : List A) (v : A)
    (run : Integrates o s.order s.integrators x is v) where
  pub waits : 0 < s.countdown → (h : A) → h ≡ s.hold
      → DecimateStep o s x (packed s.order s.delay s.rate (s.countdown - 1) s.unsettled h is s.combs) none
  waits c h eh = let t = turn_waits o s (fit s r) x is run.cells c h eh in record { state = t.state; gives = t.out }

  pub gives : s.countdown ≤ 0 → (y : A) (u : ℕ) (ks : List A) → Combs o s.order s.delay s.combs v ks y → u ≡ s.unsettled - 1
      → DecimateStep o s x (packed s.order s.delay s.rate s.rate u y is ks)
      (some (record { value = y; told = s.unsettled }))
  gives c y u ks runs eu =
      let t = turn_gives o s (fit s r) x is run.cells (omega arith) v y u ks run.last runs.last runs.cells eu in
      record { state = t.state; gives = t.out }

-- whether a sample is read
pub not_due : {A : Type 0} (o : Ops A) (c : ℕ) (xs : List A) → 0 < c → due_sample o c xs ≡ none
not_due o zero xs h = absurd (omega arith)
not_due o (suc c) xs h = refl

pub is_due : {A : Type 0} (o : Ops A) (c : ℕ) (x : A) → c ≤ 0 → due_sample o c (x ∷ []) ≡ some x
is_due o zero x h = refl
is_due o (suc c) x h = absurd (omega arith)

-- the interpolator's two ways
module _ {A : Type 0} (o : Ops A) (s : State A) (r : Ready s) (x : A) where
  pub lifts : 0 < s.countdown → (h y : A) (is : List A) → h ≡ s.hold → Integrates o s.order s.integrators h is y
      → InterpolateStep o s (due_sample o s.countdown (x ∷ []))
      (packed s.order s.delay s.rate (s.countdown - 1) s.unsettled h is s.combs) y
  lifts c h y is eh run =
      let t = rise_on o s (fit s r) c h y is eh run.cells run.last in
      rw (not_due o s.countdown (x ∷ []) c) (record { state = t.state; gives = t.out })

  pub takes : s.countdown ≤ 0 → (h y : A) (is ks : List A) → Combs o s.order s.delay s.combs x ks h
      → Integrates o s.order s.integrators h is y
      → InterpolateStep o s (due_sample o s.countdown (x ∷ []))
      (packed s.order s.delay s.rate s.rate s.unsettled h is ks) y
  takes c h y is ks runs run =
      let t = rise_due o s (fit s r) (omega arith) x h y is ks runs.last runs.cells run.cells run.last in
      rw (is_due o s.countdown x c) (record { state = t.state; gives = t.out })

-- the interpolator's numbers
module _ {A : Type 0} (s : State A) where
  pub rise-state : (k : ℕ) → k ≡ refusal s → (k ≡ 0 → ⊥) → (x : Option A) → k ≡ rise_number s x
  unfolding rise_number
  rise-state k e h (some x) = rw (← e, ne_eqb k 0 h)
  rise-state k e h none = rw (← e, ne_eqb k 0 h)
