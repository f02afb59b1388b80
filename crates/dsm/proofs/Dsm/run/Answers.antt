use mir.Syntax.{w16}
use Rattle.words.proofs.Reading.{read}
use Rattle.dsm.proofs.Running.{running_turn}
use Rattle.dsm.proofs.Dsm.run.Goals as goal

pub loop-i-preserved : goal.loop-i-preserved
loop-i-preserved g c =
    let l = c.loop-i in let a = c.args in
    rw (read w16 c.turn.result c.turn.type_inv)
    (running_turn a.self.now a.xs.now l.ys l.state c.turn.new.self l.i c.turn.result c.loop-i-test.true l.invariant c.turn.ensures)
