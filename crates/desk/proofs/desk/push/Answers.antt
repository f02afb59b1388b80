-- Refused by its number, or done (Taking).
use Rattle.std.proofs.Common.{ap₂, ◌∙◌}
use Rattle.desk.specs.Desks.{ready_taken, kind_taken}
use Rattle.desk.proofs.Taking.{event-refused, event_done}
use Rattle.desk.proofs.desk.push.Goals as goal

pub returns-in-Err : goal.returns-in-Err
unfolding kind_taken
returns-in-Err c = c.refused.ensures ∙ event-refused c.args.d c.in-Err.refusal _ _ c.in-Err.ensures

pub returns : goal.returns
unfolding kind_taken
returns c = let r = c.push-answer in c.answered.ensures ∙ ap₂ (ready_taken c.args.d) r.ensures.0 r.ensures.1 ∙ event_done c.args.d c.in_default.field-0 _ _ c.in_default.ensures
