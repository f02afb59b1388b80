use Rattle.std.proofs.Common.{◌≡◌}
use Rattle.sums.proofs.Loops.{shifted}
use Rattle.lent.proofs.cascade.comb.Given as goal

abbrev pub invariant-loop-i : goal.invariant-loop-i
invariant-loop-i g l = l.cells ≡ shifted l.base l.i l.fn.cells
