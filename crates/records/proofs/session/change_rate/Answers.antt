use Rattle.std.proofs.Common.{ap, ◌∙◌}
use Rattle.blocks.specs.Refusals.{number_in}
use Rattle.sums.specs.Calls.{rate_number}
use Rattle.shape.proofs.Known.{known, known_refusal}
use Rattle.cic.specs.Reading.{state_of}
use Rattle.records.proofs.Taking.{told_as}
use Rattle.records.proofs.session.change_rate.Goals as goal

pub returns : goal.returns
returns c =
    let a = c.args in let k = rate_number (state_of a.s.filter) a.rate in let r = c.set_rate-answer in
    told_as a.s a.s.wide k _ r.new.self _ _ r.ensures.0 (ap number_in r.ensures.1 ∙ known k tt (known_refusal _ _ _ _ _)) c.told.ensures
