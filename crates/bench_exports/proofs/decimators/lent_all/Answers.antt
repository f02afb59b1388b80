-- Each turn is a step of the block (blocks' Turns), of the state that the numbers and the arrays are.
use mathlib.Core.Path.{subst}
use Rattle.std.proofs.Common.{rules, sym, pos, get_or, set, ◌+◌}
use Rattle.std.specs.Int.{w32}
use Rattle.words.proofs.Reading.{read}
use Rattle.blocks.proofs.Turns.{Going, turn}
use Rattle.lent.specs.Reading.{counted}
use Rattle.cic.specs.Reading.{cic_of}
use Rattle.bench_exports.specs.Fresh.{step_out, step_next}
use Rattle.bench_exports.proofs.decimators.lent_all.Goals as goal

pub loop-i-preserved : goal.loop-i-preserved
loop-i-preserved c =
    let a = c.args in let l = c.loop-i in let d = c.decimate-out in let x = get_or a.xs.now l.i (pos 0) in
    let s = cic_of (counted l.numbers l.integrators l.combs) in
    let e = rw (read w32 x (search rules)) at d.ensures in
    rw (read w32 c.given.result (search rules), c.given.ensures, e.1)
    (subst (λ r. Going step_out step_next (cic_of (counted a.numbers a.integrators.now a.combs.now)) a.xs.now (set l.ys l.i (step_out s x)) (cic_of r)
    (l.i + 1)) (sym e.0) (turn step_out step_next _ a.xs.now l.ys s l.i (pos 0) c.loop-i-test.true l.invariant))
