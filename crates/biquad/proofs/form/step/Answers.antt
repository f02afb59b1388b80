-- A refused step has the refusal of its number, whatever its output would be.
use Rattle.std.proofs.lemmas.Result.{err_from_is_err_and}
use Rattle.blocks.proofs.Refusals.{accepted, refused_too, taken_number}
use Rattle.blocks.proofs.Ways.{kept, never}
use Rattle.biquad.proofs.form.step.Goals as goal

pub returns-in_err-refusal-clause-answers : goal.returns-in_err-refusal-clause-answers
returns-in_err-refusal-clause-answers g c =
    let p = err_from_is_err_and c.from_residual.result c.from_residual.ensures.1 in
    rw (p.1, p.2) (refused_too (g.C.Coefficients.number c.args.c) tt _ _ c.in_err-refusal.ensures)

pub returns-in_err-refusal-clause-leaves : goal.returns-in_err-refusal-clause-leaves
returns-in_err-refusal-clause-leaves g c =
    kept (g.C.Coefficients.number c.args.c) _ _ (never (g.C.Coefficients.number c.args.c) tt _ c.in_err-refusal.ensures)

pub returns-clause-answers : goal.returns-clause-answers
returns-clause-answers g c =
    let k = g.C.Coefficients.number c.args.c in rw c.turn.ensures.0 (accepted k _ (taken_number k tt _ c.in_ok-refusal.ensures))

pub returns-clause-leaves : goal.returns-clause-leaves
returns-clause-leaves g c = rw (taken_number (g.C.Coefficients.number c.args.c) tt _ c.in_ok-refusal.ensures) c.turn.ensures.1
