use Rattle.shape.proofs.Known.{known_refusal}
use Rattle.capi_questions.proofs.Handed.{tells}
use Rattle.capi_questions.proofs.mittenload_gain_log2.Goals as goal

pub returns : goal.returns
returns c =
    let a = c.args in tells _ _ _ _ _ c.gain_log2.result (known_refusal a.order a.delay a.rate a.countdown a.unsettled) c.gain_log2.ensures c.tell.ensures.1 c.tell.ensures.0
