-- One test for both rates, by their maximum; then only two numbers change.
use Rattle.std.proofs.Common.{rules, ◌≡◌, refl, ne_eqb}
use Rattle.std.specs.Prelude.{Err, max}
use Rattle.blocks.specs.Refusals.{answer}
use Rattle.blocks.proofs.Refusals.{taken_number}
use Rattle.sums.specs.Calls.{rate_number, rate_state}
use Rattle.sums.proofs.Refusals.{sound}
use Rattle.sums.proofs.Numbers.{small}
use Rattle.shape.proofs.Ways.{never}
use Rattle.cic.specs.Reading.{state_of}
use Rattle.cic.proofs.state.Cic.set_rate.Goals as goal

pub returns-in_err-check : goal.returns-in_err-check
unfolding rate_state
returns-in_err-check g c =
    let r = c.in_err-check in let e : c.from_residual.result ≡ Err r.field-0.0 = search rules in
    let refused = rw (c.shape.ensures, c.max.ensures) at r.ensures in
    let h = ne_eqb (rate_number (state_of c.args.self.now) c.args.rate) 0 (never _ tt r.field-0.0 refused) in (rw h, rw e refused)

pub overflow_mul-self : goal.overflow_mul-self
overflow_mul-self g c =
    let s = c.args.self.now in
    let z = taken_number _ _ _ (rw (c.shape.ensures, c.max.ensures) at c.in_ok-check.ensures) in
    let ok = sound s.order s.delay (max s.rate c.args.rate) s.countdown s.unsettled z in small s.order s.delay ok.few ok.short

pub returns : goal.returns
unfolding rate_state answer
returns g c =
    let z : rate_number (state_of c.args.self.now) c.args.rate ≡ 0 =
    taken_number _ _ _ (rw (c.shape.ensures, c.max.ensures) at c.in_ok-check.ensures) in
    (rw z refl, rw z refl)
