use Rattle.std.proofs.Common.{◌≡◌}
use Rattle.sums.proofs.Loops.{part_ints, part_sum}
use Rattle.lent.proofs.cascade.integrate.Given as goal

abbrev pub invariant-loop-i : goal.invariant-loop-i
invariant-loop-i g l =
    (l.cells ≡ part_ints g.W.Word.ops l.i l.fn.cells l.fn.x) × (l.acc ≡ part_sum g.W.Word.ops l.i l.fn.cells l.fn.x)
