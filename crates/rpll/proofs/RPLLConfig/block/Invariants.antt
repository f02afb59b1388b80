use Rattle.rpll.proofs.Blocks.{Locking}
use Rattle.rpll.proofs.RPLLConfig.block.Given as goal

abbrev pub invariant-loop-i : goal.invariant-loop-i
invariant-loop-i l = Locking l.self l.initial.state l.there l.xs l.ys l.fs l.state l.i
