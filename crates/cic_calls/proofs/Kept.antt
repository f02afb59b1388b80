-- What a decimator's step leaves of a state's numbers, by what it gives: order, delay and rate; the unsettled count and the hold too where it
-- gives nothing, and where an output stands; everything where it is refused.
use mathlib.Core.Path.{◌≡◌, refl}
use Prim.Native.Nat.{ℕ, zero, suc, ◌-◌}
use lib.Dec.{eqb-suc-zero}
use Rattle.std.specs.Prelude.{Result, Ok, Err, Option, Some, None}
use Rattle.blocks.specs.declared.refusal.Refusal.{Refusal}
use Rattle.blocks.specs.Refusals.{answer, refusal_at}
use Rattle.sums.specs.Ops.{Ops}
use Rattle.sums.specs.Machine.{decimated, decimated_at, given, given_at}
use Rattle.sums.specs.State.{refusal, view, put}
use Rattle.sums.specs.Calls.{step_state, step_given}
use Rattle.sums.specs.Counted.{Counted, take_number, take_state, take_given, with_number}
use Rattle.sums.proofs.Numbering.{take_accepts}
use Rattle.lent.specs.Answers.{out_of, step_out}
use Rattle.lent.specs.declared.steps.Output as declared

module _ {A : Type 0} where
  pub record Kept (c t : Counted A) : Type 0 where
    pub order : t.state.order ≡ c.state.order
    pub delay : t.state.delay ≡ c.state.delay
    pub rate : t.state.rate ≡ c.state.rate

  -- where an output stands
  pub record Stands (y : declared.Output A) (c t : Counted A) : Type 0 where
    pub value : y.value ≡ t.state.hold
    pub told : y.told ≡ c.state.unsettled
    pub lowered : t.state.unsettled ≡ c.state.unsettled - 1
    pub number : y.number ≡ t.inputs

  abbrev pub Leaves : Result (Option (declared.Output A)) Refusal → Counted A → Counted A → Type 0
  Leaves (Ok (Some y)) c t = Kept c t × Stands y c t
  Leaves (Ok None) c t = Kept c t × (t.state.unsettled ≡ c.state.unsettled) × (t.state.hold ≡ c.state.hold)
  Leaves (Err k) c t = t ≡ c

  pub leaves_as : (o q : Result (Option (declared.Output A)) Refusal) (c t u : Counted A) → o ≡ q → t ≡ u → Leaves q c u → Leaves o c t
  leaves_as o q c t u eo et h = rw (eo, et) h

module _ {A : Type 0} (o : Ops A) (c : Counted A) (x : A) where
  stepped : ℕ → Counted A
  stepped n = record { state = put c.state (decimated_at o (view c.state) x n); inputs = suc c.inputs }

  answered : ℕ → Result (Option (declared.Output A)) Refusal
  answered n = out_of 0 (with_number (suc c.inputs) (given_at o (view c.state) x n))

  module _ (ez : take_number c 1 ≡ 0) (er : refusal c.state ≡ 0) where
    state_is : take_state o c x ≡ stepped c.state.countdown
    unfolding take_state step_state decimated view stepped
    state_is = rw (ez, er)

    out_is : step_out o c x ≡ answered c.state.countdown
    unfolding take_given step_given given view answered
    out_is = rw (ez, er)

  leaves_at : (n : ℕ) → Leaves (answered n) c (stepped n)
  unfolding stepped answered answer decimated_at given_at put view
  leaves_at zero = (record { order = refl; delay = refl; rate = refl }, record { value = refl; told = refl; lowered = refl; number = refl })
  leaves_at (suc n) = (record { order = refl; delay = refl; rate = refl }, refl, refl)

  leaves_by : (k : ℕ) → take_number c 1 ≡ k → Leaves (step_out o c x) c (take_state o c x)
  unfolding take_state answer
  leaves_by zero e =
      let er = take_accepts c 1 e in
      leaves_as (step_out o c x) (answered c.state.countdown) c (take_state o c x) (stepped c.state.countdown) (out_is e er) (state_is e er)
      (leaves_at c.state.countdown)
  leaves_by (suc k) e = leaves_as (step_out o c x) (Err (refusal_at (suc k))) c (take_state o c x) c (rw e) (rw (e, eqb-suc-zero k)) refl

  pub leaves : Leaves (step_out o c x) c (take_state o c x)
  leaves = leaves_by (take_number c 1) refl
