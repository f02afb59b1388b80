-- A refusal by the configuration's number, or the step and its estimate.
use Rattle.std.proofs.lemmas.Result.{err_from_is_err_and}
use Rattle.blocks.proofs.Refusals.{accepted, refused_too, taken_number}
use Rattle.blocks.proofs.Ways.{never, kept, came}
use Rattle.rpll.specs.Loops.{config_number}
use Rattle.rpll.proofs.RPLLConfig.process.Goals as goal

pub returns-in_err-accepted : goal.returns-in_err-accepted
returns-in_err-accepted c =
    let p = err_from_is_err_and c.from_residual.result c.from_residual.ensures.1 in
    let k = config_number c.args.self in
    let e = c.in_err-accepted.ensures in
    rw (p.1, p.2) (refused_too k tt _ _ e, kept k _ _ (never k tt _ e))

pub update-requires : goal.update-requires
update-requires c = taken_number (config_number c.args.self) tt _ c.in_ok-accepted.ensures

pub returns : goal.returns
returns c =
    let k = config_number c.args.self in
    let e = taken_number k tt _ c.in_ok-accepted.ensures in
    rw (c.estimate.ensures, c.update.ensures) (accepted k _ e, came k _ _ e)
