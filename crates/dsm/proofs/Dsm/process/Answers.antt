use Rattle.std.proofs.Common.{refl}
use Rattle.std.proofs.lemmas.Result.{err_from_is_err_and}
use Rattle.blocks.proofs.Refusals.{taken_number}
use mir.Syntax.{w16}
use Rattle.words.proofs.Reading.{read}
use Rattle.dsm.specs.Calls.{state_number}
use Rattle.dsm.proofs.Ways.{step-refused, step-taken}
use Rattle.dsm.proofs.Dsm.process.Goals as goal

pub returns-in_err-accepted : goal.returns-in_err-accepted
returns-in_err-accepted c =
    let p = err_from_is_err_and c.from_residual.result c.from_residual.ensures.1 in
    let s = c.args.self.now in
    rw (p.1, p.2) (step-refused (state_number s) tt _ c.in_err-accepted.ensures s c.args.x refl)

pub turn-requires : goal.turn-requires
turn-requires c = (refl, taken_number (state_number c.args.self.now) tt _ c.in_ok-accepted.ensures)

pub returns : goal.returns
returns c =
    let s = c.args.self.now in
    rw (read w16 c.turn.result c.turn.type_inv)
    (step-taken s c.args.x c.turn.new.self c.turn.result (taken_number (state_number s) tt _ c.in_ok-accepted.ensures) c.turn.ensures)
