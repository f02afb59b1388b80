-- Unlike slices, a refusal of the coefficients, or the steps in turn.
use Rattle.std.proofs.lemmas.Result.{err_from_is_err_and}
use Rattle.blocks.proofs.Refusals.{taken_number}
use Rattle.blocks.proofs.Ways.{unlike, own, taken}
use Rattle.biquad_fixed.proofs.form.block.Goals as goal

pub returns-then-xs-ys : goal.returns-then-xs-ys
returns-then-xs-ys g c =
    let a = c.args in let f = g.S.Form in
    unlike (f.number a.c) (f.gives a.c) (f.after a.c) a.state.now a.xs.now a.ys.now c.if-xs-ys.true

pub returns-in_err-accepts : goal.returns-in_err-accepts
returns-in_err-accepts g c =
    let a = c.args in let f = g.S.Form in
    let p = err_from_is_err_and c.from_residual.result c.from_residual.ensures.1 in
    rw (p.1, p.2) (own (f.number a.c) (f.gives a.c) (f.after a.c) a.state.now a.xs.now a.ys.now tt _ c.if-xs-ys.false
    c.in_err-accepts.ensures)

pub turns-requires-clause-accepted : goal.turns-requires-clause-accepted
turns-requires-clause-accepted g c = taken_number (g.S.Form.number c.args.c) tt _ c.in_ok-accepts.ensures

pub returns : goal.returns
returns g c =
    let a = c.args in let f = g.S.Form in
    taken (f.number a.c) (f.gives a.c) (f.after a.c) a.state.now a.xs.now a.ys.now c.turns.new.state c.turns.new.ys c.if-xs-ys.false
    (taken_number (f.number a.c) tt _ c.in_ok-accepts.ensures) c.turns.ensures.0 c.turns.ensures.1
