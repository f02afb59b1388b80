use Rattle.std.proofs.Common.{◌+◌, ◌-◌, ℕ, sym, ap, ◌∙◌, arith}
use Rattle.desk.specs.Saved.{next_check, check_from, words_at}
use Rattle.desk.proofs.Words.{check_on, check_end}
use Rattle.desk.proofs.saved.check_of.Goals as goal

pub loop-i-preserved : goal.loop-i-preserved
loop-i-preserved c =
    let l = c.loop-i in let line = c.args.line.now in (
      omega (arith, c.loop-i-test.true),
      l.invariant.1 ∙ check_on line l.i l.c c.loop-i-test.true
          ∙ ap (λ (n : ℕ). check_from n (words_at line (l.i + 1) (79 - (l.i + 1))))
          (sym (c.checked-c.ensures ∙ ap (next_check l.c) c.word_at.ensures)),
    )

pub returns : goal.returns
returns c = let l = c.loop-i in sym (l.invariant.1 ∙ check_end c.args.line.now l.i l.c c.loop-i-test.false)
