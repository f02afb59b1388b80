use Rattle.std.proofs.Common.{◌≡◌}
use Rattle.sums.proofs.Loops.{part_cells, part_comb}
use Rattle.lent.proofs.cascade.difference.Given as goal

abbrev pub invariant-loop-j : goal.invariant-loop-j
invariant-loop-j g l =
    (l.cells ≡ part_cells g.W.Word.ops l.m l.j l.fn.cells l.fn.x) × (l.acc ≡ part_comb g.W.Word.ops l.m l.j l.fn.cells l.fn.x)
