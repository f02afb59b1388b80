use Rattle.dsm.proofs.Chaining.{Adds}
use Rattle.dsm.proofs.accumulate.Given as goal

abbrev pub invariant-loop-i : goal.invariant-loop-i
invariant-loop-i l = Adds l.order l.x l.initial.a l.a l.value l.carries l.i
