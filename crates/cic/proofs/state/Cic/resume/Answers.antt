-- Refused by its number or taken as given; N-as-M is small where the state is sound.
use Rattle.std.proofs.Common.{rules, ◌≡◌, refl}
use Rattle.std.specs.Prelude.{Err}
use Rattle.blocks.specs.Refusals.{answer}
use Rattle.blocks.proofs.Refusals.{refused_too, taken_number}
use Rattle.sums.specs.Calls.{resume_number, resume_state}
use Rattle.sums.proofs.Numbers.{small}
use Rattle.cic.proofs.Making.{resume_made}
use Rattle.shape.proofs.Ways.{passing}
use Rattle.cic.proofs.state.Cic.resume.Goals as goal

pub returns-in_err-check : goal.returns-in_err-check
returns-in_err-check g c =
    let r = c.in_err-check in let e : c.from_residual.result ≡ Err r.field-0.0 = search rules in let a = c.args in
    resume_made _ a.order a.delay a.rate a.integrators a.combs a.hold a.countdown a.inputs _ (rw e (refused_too _ _ _ r.field-0.0 r.ensures))

pub overflow_mul-result : goal.overflow_mul-result
overflow_mul-result g c = let ok = passing _ c.in_ok-check.ensures in small c.args.order c.args.delay ok.few ok.short

pub returns : goal.returns
unfolding answer resume_state
returns g c =
    let a = c.args in
    let z : resume_number a.order a.delay a.rate a.countdown ≡ 0 = taken_number _ _ _ c.in_ok-check.ensures in
    resume_made _ a.order a.delay a.rate a.integrators a.combs a.hold a.countdown a.inputs _ (rw z refl)
