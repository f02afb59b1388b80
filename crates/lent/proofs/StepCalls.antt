-- The ways in which a step's call ends: refused by its number, or taken.
use Rattle.std.proofs.Common.{◌≡◌, ℕ, suc, eq-eqb, ne_eqb}
use Rattle.std.specs.Prelude.{Result, Ok, Err, Option, Some, None}
use Rattle.std.proofs.Math.Option.{none, some}
use Rattle.std.proofs.Math.Option as math
use Rattle.blocks.specs.declared.refusal.Refusal.{Refusal}
use Rattle.blocks.specs.Refusals.{answer}
use Rattle.blocks.proofs.Refusals.{accepted, refused_too}
use Rattle.sums.specs.Ops.{Ops}
use Rattle.sums.specs.Machine.{Output}
use Rattle.sums.specs.State.{State}
use Rattle.sums.specs.Calls.{rise_number, rise_state, rise_given}
use Rattle.sums.specs.Counted.{Counted, take_number, with_number, take_state, take_given, rise_counted}
use Rattle.sums.proofs.Lent.{DecimateStep}
use Rattle.shape.proofs.Ways.{never}
use Rattle.lent.specs.declared.steps.Output as declared
use Rattle.lent.specs.Answers.{output_of, step_out, rise_out}

-- the decimator's call
module _ {A : Type 0} (o : Ops A) (c : Counted A) (x : A) where
  pub step_refuses : {V : Type 0} (v : V) (r : Refusal) → ◌≡◌ {A = Result V Refusal} (Err r) (answer (take_number c 1) v)
      → (c ≡ take_state o c x) × (◌≡◌ {A = Result (Option (declared.Output A)) Refusal} (Err r) (step_out o c x))
  unfolding take_state
  step_refuses v r e = (rw (ne_eqb (take_number c 1) 0 (never (take_number c 1) v r e)), refused_too (take_number c 1) v _ r e)

  module _ (z : take_number c 1 ≡ 0) (t : State A) (n : ℕ) (e : n ≡ suc c.inputs) where
    step_takes : (g : math.Option (Output A)) → DecimateStep o c.state x t g
        → (◌≡◌ {A = Counted A} (record { state = t; inputs = n }) (take_state o c x))
        × (◌≡◌ {A = Result (Option (declared.Output A)) Refusal} (Ok (output_of (with_number n g))) (step_out o c x))
    unfolding take_state take_given
    step_takes g r = (rw (z, e, r.state), rw (e, r.gives, eq-eqb (take_number c 1) 0 z) (accepted (take_number c 1) _ z))

    pub step_waits : DecimateStep o c.state x t none
        → (◌≡◌ {A = Counted A} (record { state = t; inputs = n }) (take_state o c x))
        × (◌≡◌ {A = Result (Option (declared.Output A)) Refusal} (Ok None) (step_out o c x))
    step_waits r = step_takes none r

    pub step_gives : (y : A) (u : ℕ) → DecimateStep o c.state x t (some (record { value = y; told = u }))
        → (◌≡◌ {A = Counted A} (record { state = t; inputs = n }) (take_state o c x))
        × (◌≡◌ {A = Result (Option (declared.Output A)) Refusal} (Ok (Some (record { value = y; told = u; number = n }))) (step_out o c x))
    step_gives y u r = step_takes (some (record { value = y; told = u })) r

-- the interpolator's call
module _ {A : Type 0} (o : Ops A) (c : Counted A) (x : math.Option A) where
  pub rise_refuses : {V : Type 0} (v : V) (r : Refusal) → ◌≡◌ {A = Result V Refusal} (Err r) (answer (rise_number c.state x) v)
      → (c ≡ rise_counted o c x) × (◌≡◌ {A = Result A Refusal} (Err r) (rise_out o c x))
  unfolding rise_state
  rise_refuses v r e = (rw (ne_eqb (rise_number c.state x) 0 (never (rise_number c.state x) v r e)), refused_too (rise_number c.state x) v _ r e)

  pub rise_takes : rise_number c.state x ≡ 0 → (z : math.Option A) → z ≡ x → (t : Counted A) (y : A)
      → (t ≡ rise_counted o c z) × (y ≡ rise_given o c.state z)
      → (t ≡ rise_counted o c x) × (◌≡◌ {A = Result A Refusal} (Ok y) (rise_out o c x))
  rise_takes e z f t y h = (rw (← f) h.0, rw (← f) (rw h.1 (accepted (rise_number c.state z) _ (rw (← f) at e))))
