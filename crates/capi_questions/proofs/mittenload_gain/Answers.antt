use Rattle.shape.proofs.Known.{known_gain}
use Rattle.capi_questions.proofs.Handed.{tells}
use Rattle.capi_questions.proofs.mittenload_gain.Goals as goal

pub returns : goal.returns
returns c =
    let a = c.args in tells _ _ _ _ _ c.gain.result (known_gain a.order a.delay a.rate a.countdown a.unsettled) c.gain.ensures c.tell.ensures.1 c.tell.ensures.0
