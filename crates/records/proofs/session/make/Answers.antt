use Rattle.std.proofs.Common.{◌∙◌}
use Rattle.sums.specs.Calls.{new_number}
use Rattle.shape.proofs.Known.{known_refusal}
use Rattle.records.proofs.Taking.{made-taken, refused-by}
use Rattle.records.proofs.session.make.Goals as goal

pub returns-in-Ok : goal.returns-in-Ok
returns-in-Ok c = let a = c.args in c.with_filter.ensures ∙ made-taken a.s a.wide (new_number a.order a.delay a.rate) _ c.in-Ok.filter c.in-Ok.ensures.0

pub returns-in-Err : goal.returns-in-Err
returns-in-Err c =
    let a = c.args in
    (rw c.number.ensures at c.refused.ensures)
    ∙ refused-by a.s a.wide (new_number a.order a.delay a.rate) _ _ (known_refusal a.order a.delay a.rate 0 0) c.in-Err.refusal c.in-Err.ensures.0
