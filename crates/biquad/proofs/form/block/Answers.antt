-- Unlike slices, a refusal of the coefficients, or the steps in turn, the coefficients carried beside the state.
use Rattle.std.proofs.Common.{refl, ◌∙◌, ap, Float}
use Rattle.std.proofs.lemmas.Result.{err_from_is_err_and}
use Rattle.blocks.proofs.Refusals.{taken_number}
use Rattle.blocks.proofs.Turns.{fed-ran}
use Rattle.blocks.proofs.Ways.{unlike, own, taken}
use Rattle.blocks.proofs.Carried.{carried_ends, carried_scan}
use Rattle.biquad.specs.declared.form.Going.{Going}
use Rattle.biquad.proofs.form.block.Goals as goal

pub returns-then-xs-ys : goal.returns-then-xs-ys
returns-then-xs-ys g c =
    let a = c.args in let f = g.S.Form in
    unlike (g.C.Coefficients.number a.c) (f.gives a.c) (f.after a.c) a.state.now a.xs.now a.ys.now c.if-xs-ys.true

pub returns-in_err-refusal : goal.returns-in_err-refusal
returns-in_err-refusal g c =
    let a = c.args in let f = g.S.Form in
    let p = err_from_is_err_and c.from_residual.result c.from_residual.ensures.1 in
    rw (p.1, p.2) (own (g.C.Coefficients.number a.c) (f.gives a.c) (f.after a.c) a.state.now a.xs.now a.ys.now tt _ c.if-xs-ys.false
    c.in_err-refusal.ensures)

pub returns : goal.returns
returns g c =
    let a = c.args in let f = g.S.Form in let k = g.C.Coefficients.number a.c in
    let T = Going g.row.C.Denot g.row.S.Denot in
    let gives : T → Float → Float = λ t x. f.gives t.c t.state x in
    let after : T → Float → T = λ t x. record { c = t.c; state = f.after t.c t.state x } in
    let beside : g.row.S.Denot → T = λ s. record { c = a.c; state = s } in
    let ran = fed-ran gives after (beside a.state.now) a.xs.now a.ys.now c.run.new.filter c.run.new.ys c.if-xs-ys.false c.run.ensures in
    let whole = ran.0 ∙ carried_ends (f.gives a.c) (f.after a.c) gives after beside (λ s x. refl) (λ s x. refl) a.state.now a.xs.now in
    taken k (f.gives a.c) (f.after a.c) a.state.now a.xs.now a.ys.now c.run.new.filter.state c.run.new.ys c.if-xs-ys.false
    (taken_number k tt _ c.in_ok-refusal.ensures) (ap (λ (t : T). t.state) whole)
    (ran.1 ∙ carried_scan (f.gives a.c) (f.after a.c) gives after beside (λ s x. refl) (λ s x. refl) a.state.now a.xs.now)
