-- By the line's length. No step is named by the bound, so that a wrong one is refused by the fact.
use Rattle.std.proofs.Common.{rules, arith}
use Rattle.records.proofs.Taking.{line-long, line-short}
use Rattle.records.proofs.session.take_line.Statement.{statement}
use Rattle.records.proofs.session.take_line.Tie as tie

pub take_line_spec : {M : Type 1} → statement M
take_line_spec =
    tie.close (tie.spec (λ c κs. search rules)
    (λ c.
    let begin : tie.Start = search in
    line-long begin.args.s begin.args.line.now c.refused.result (omega arith) c.refused.ensures)
    (λ c κs. search rules) (λ c κs. search rules)
    (λ c.
    let begin : tie.Start = search in
    line-short begin.args.s begin.args.line.now c.before.parse.result c.take_record.result (omega arith) c.before.parse.ensures
    c.take_record.ensures))
