use Rattle.std.proofs.Common.{ap, ◌∙◌}
use Rattle.blocks.specs.Refusals.{number_in}
use Rattle.sums.specs.State.{refusal}
use Rattle.shape.proofs.Known.{known, known_refusal}
use Rattle.cic.specs.Reading.{state_of}
use Rattle.records.proofs.Taking.{told_as}
use Rattle.records.proofs.session.clear_filter.Goals as goal

pub returns : goal.returns
returns c =
    let a = c.args in let k = refusal (state_of a.s.filter) in let r = c.clear-answer in
    told_as a.s a.s.wide k _ r.new.self _ _ r.ensures.0 (ap number_in r.ensures.1 ∙ known k tt (known_refusal _ _ _ _ _)) c.told.ensures
