use Rattle.dsm.proofs.Running.{Running}
use Rattle.dsm.proofs.Dsm.run.Given as goal

abbrev pub invariant-loop-i : goal.invariant-loop-i
invariant-loop-i g l = Running l.initial.state l.xs l.ys l.state l.i
