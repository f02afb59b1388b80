-- Zeros with one line and one integrator set; the gain is multiplied up modulo the word.
use Rattle.std.proofs.Common.{rules, ◌≡◌, refl, ap, ne_eqb, arith, add-one}
use Rattle.std.specs.Prelude.{Err}
use Rattle.blocks.specs.Refusals.{answer}
use Rattle.blocks.proofs.Refusals.{taken_number}
use Rattle.sums.specs.Ops.{times}
use Rattle.sums.specs.State.{State, refusal, zeroed}
use Rattle.sums.specs.Calls.{gain, gain_of, settle_state}
use Rattle.sums.specs.Counted.{Counted}
use Rattle.sums.proofs.Refusals.{good}
use Rattle.sums.proofs.Numbers.{span_fits}
use Rattle.sums.proofs.Levels.{settle_none, settle_some}
use Rattle.shape.proofs.Ways.{never}
use Rattle.cic.specs.Reading.{state_of}
use Rattle.cic.proofs.state.Cic.settle_interpolate.Goals as goal

from_start : {A : Type 0} → State A → Counted A
from_start t = record { state = t; inputs = 0 }

pub returns-in_err-check : goal.returns-in_err-check
unfolding settle_state
returns-in_err-check g c =
    let r = c.in_err-check in let e : c.from_residual.result ≡ Err r.field-0.0 = search rules in
    let h = ne_eqb (refusal (state_of c.args.self.now)) 0 (never _ tt r.field-0.0 r.ensures) in (rw h, rw e r.ensures)

pub returns-then-order-eq0 : goal.returns-then-order-eq0
unfolding settle_state answer zeroed from_start
returns-then-order-eq0 g c =
    let s = state_of c.args.self.now in let z : refusal s ≡ 0 = taken_number _ _ _ c.in_ok-check.ensures in
    (rw (c.zeros.ensures, z) (ap from_start (settle_none g.W.Word.ops s c.args.x c.if-order-eq0.true)), rw z refl)

pub overflow_cast-delay : goal.overflow_cast-delay
overflow_cast-delay g c =
    let ok = good (state_of c.args.self.now) (taken_number _ _ _ c.in_ok-check.ensures) in record { fits = omega (arith, ok.short) }

pub overflow_cast-factor : goal.overflow_cast-factor
overflow_cast-factor g c =
    let s = c.args.self.now in let ok = good (state_of s) (taken_number _ _ _ c.in_ok-check.ensures) in
    rw c.span-factor.ensures (record { fits = omega (arith, span_fits s.rate s.delay ok.slow ok.short, add-one s.rate) })

pub offset_bounds-self-order : goal.offset_bounds-self-order
offset_bounds-self-order g c =
    let ok = good (state_of c.args.self.now) (taken_number _ _ _ c.in_ok-check.ensures) in omega (arith, ok.few)

pub listed : goal.listed
unfolding zeroed
listed g c =
    let ok = good (state_of c.args.self.now) (taken_number _ _ _ c.in_ok-check.ensures) in
    rw c.zeros.ensures (omega (arith, ok.few, c.if-order-eq0.false))

pub bounds-self-order : goal.bounds-self-order
bounds-self-order g c =
    let ok = good (state_of c.args.self.now) (taken_number _ _ _ c.in_ok-check.ensures) in
    omega (arith, ok.few, c.if-order-eq0.false)

pub level-self-requires : goal.level-self-requires
level-self-requires g c =
    let ok = good (state_of c.args.self.now) (taken_number _ _ _ c.in_ok-check.ensures) in (search rules, omega (arith, ok.short))

pub returns : goal.returns
unfolding settle_state answer zeroed gain_of from_start
returns g c =
    let s = state_of c.args.self.now in let z : refusal s ≡ 0 = taken_number _ _ _ c.in_ok-check.ensures in let o = g.W.Word.ops in
    let ok = good s z in
    let gains : c.scaled.result ≡ times o (gain s) c.args.x = rw c.span-factor.ensures at c.scaled.ensures in (
      rw (c.zeros.ensures, z) (ap from_start (settle_some o s c.args.x (omega (arith, c.if-order-eq0.false)) ok.few c.scaled.result c.level-self.result gains
          c.level-self.ensures)),
      rw z refl,
    )
