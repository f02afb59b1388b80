use Rattle.std.proofs.Common.{rules, ◌≡◌, refl}
use Rattle.std.specs.Prelude.{Err}
use Rattle.blocks.specs.Refusals.{answer}
use Rattle.blocks.proofs.Refusals.{refused_too, taken_number}
use Rattle.sums.specs.Calls.{new_number, new_state}
use Rattle.cic.proofs.Making.{new_made}
use Rattle.cic.proofs.state.Cic.new.Goals as goal

pub returns-in_err-check : goal.returns-in_err-check
returns-in_err-check g c =
    let r = c.in_err-check in let e : c.from_residual.result ≡ Err r.field-0.0 = search rules in
    new_made _ c.args.order c.args.delay c.args.rate _ (rw e (refused_too _ _ _ r.field-0.0 r.ensures))

pub returns : goal.returns
unfolding answer new_state
returns g c =
    let a = c.args in let z : new_number a.order a.delay a.rate ≡ 0 = taken_number _ _ _ c.in_ok-check.ensures in
    new_made _ a.order a.delay a.rate _ (rw (c.zeros.ensures, z) refl)
