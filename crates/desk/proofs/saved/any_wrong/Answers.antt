use Rattle.std.proofs.Common.{sym, ◌∙◌, arith}
use Rattle.desk.proofs.Words.{wrong_on, wrong_found, wrong_end}
use Rattle.desk.proofs.saved.any_wrong.Goals as goal

pub returns-in_default : goal.returns-in_default
returns-in_default c =
    let l = c.loop-i in
    sym (l.invariant.1 ∙ wrong_found c.args.line.now l.i c.loop-i-test.true (sym c.pattern_at.ensures ∙ c.in_default.is))

pub loop-i-preserved : goal.loop-i-preserved
loop-i-preserved c =
    let l = c.loop-i in (
      omega (arith, c.loop-i-test.true),
      l.invariant.1 ∙ wrong_on c.args.line.now l.i _ c.loop-i-test.true (sym c.pattern_at.ensures ∙ c.in-Some.is),
    )

pub returns : goal.returns
returns c = let l = c.loop-i in sym (l.invariant.1 ∙ wrong_end c.args.line.now l.i c.loop-i-test.false)
