-- A refused step has the refusal of its number, whatever its output would be.
use Rattle.std.proofs.Common.{w32}
use Rattle.std.proofs.lemmas.Result.{err_from_is_err_and}
use mir.ValLaws.{to_z-of_z}
use Rattle.words.proofs.Reading.{read}
use Rattle.blocks.proofs.Refusals.{accepted, refused_too, taken_number}
use Rattle.blocks.proofs.Ways.{kept, never}
use Rattle.biquad_fixed.proofs.form.step.Goals as goal

pub returns-in_err-accepts-clause-answers : goal.returns-in_err-accepts-clause-answers
returns-in_err-accepts-clause-answers g c =
    let p = err_from_is_err_and c.from_residual.result c.from_residual.ensures.1 in
    rw (p.1, p.2) (refused_too (g.S.Form.number c.args.c) tt _ _ c.in_err-accepts.ensures)

pub returns-in_err-accepts-clause-leaves : goal.returns-in_err-accepts-clause-leaves
returns-in_err-accepts-clause-leaves g c = kept (g.S.Form.number c.args.c) _ _ (never _ tt _ c.in_err-accepts.ensures)

pub turn-requires : goal.turn-requires
turn-requires g c = taken_number (g.S.Form.number c.args.c) tt _ c.in_ok-accepts.ensures

pub returns-clause-answers : goal.returns-clause-answers
returns-clause-answers g c =
    rw (read w32 c.turn.result c.turn.type_inv, c.turn.ensures.0, to_z-of_z w32 c.args.x0 c.ranges.x0) (accepted (g.S.Form.number c.args.c) _
    (taken_number (g.S.Form.number c.args.c) tt _ c.in_ok-accepts.ensures))

pub returns-clause-leaves : goal.returns-clause-leaves
returns-clause-leaves g c = rw (taken_number (g.S.Form.number c.args.c) tt _ c.in_ok-accepts.ensures) (rw (to_z-of_z w32 c.args.x0 c.ranges.x0) at c.turn.ensures.1)
