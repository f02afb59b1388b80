use Rattle.std.proofs.Common.{◌≡◌}
use Rattle.sums.proofs.Rings.{rolled_at}
use Rattle.lent.proofs.stretches.unroll_line.Given as goal

abbrev pub invariant-loop-turn : goal.invariant-loop-turn
invariant-loop-turn g l = l.cells ≡ rolled_at l.base l.m l._turn l.fn.cells
