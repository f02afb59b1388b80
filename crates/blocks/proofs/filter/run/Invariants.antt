use lib.ListN.{take}
use Rattle.blocks.proofs.Turns.{Feeding}
use Rattle.blocks.proofs.filter.run.Given as goal

abbrev pub invariant-loop-i : goal.invariant-loop-i
invariant-loop-i g l = Feeding g.F.Filter.gives g.F.Filter.after l.initial.filter (take l.count l.xs) l.initial.ys l.ys l.filter l.i
