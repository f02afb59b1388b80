use Rattle.shape.proofs.Known.{known_refusal, known_fit}
use Rattle.capi_questions.proofs.Handed.{fits, unfit}
use Rattle.capi_questions.proofs.mittenload_fit.Goals as goal

pub returns-in-Ok : goal.returns-in-Ok
returns-in-Ok c = fits _ c.args.yes.now _ c.in-Ok.fits c.from.result c.in-Ok.ensures c.from.ensures

pub returns-in-Err : goal.returns-in-Err
returns-in-Err c =
    let a = c.args in
    unfit _ a.yes.now _ c.in-Err.r c.number.result (known_fit _ a.width a.b (known_refusal a.order a.delay a.rate a.countdown a.unsettled)) c.in-Err.ensures
    c.number.ensures
