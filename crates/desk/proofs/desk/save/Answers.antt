-- Refused by its number, or done (Taking).
use Rattle.std.proofs.Common.{◌∙◌}
use Rattle.desk.specs.Desks.{kind_taken}
use Rattle.desk.proofs.Taking.{event-refused, event_done}
use Rattle.desk.proofs.desk.save.Goals as goal

pub returns-in-Err : goal.returns-in-Err
unfolding kind_taken
returns-in-Err c = c.refused.ensures ∙ event-refused c.args.d c.in-Err.refusal _ _ c.in-Err.ensures

pub returns : goal.returns
unfolding kind_taken
returns c = c.with_recorder.ensures ∙ event_done c.args.d c.in_default.field-0 _ _ c.in_default.ensures
