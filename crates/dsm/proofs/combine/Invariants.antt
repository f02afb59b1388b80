use Rattle.std.proofs.Common.{◌-◌}
use Rattle.dsm.proofs.Combining.{Combining}
use Rattle.dsm.proofs.combine.Given as goal

abbrev pub invariant-loop-j : goal.invariant-loop-j
invariant-loop-j l = Combining (l.order - 1) l.d l.initial.c l.c l.left l.y l.j
