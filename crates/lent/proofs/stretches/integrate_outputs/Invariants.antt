-- The integrators and the outputs, said by what is left to write.
use Rattle.std.proofs.Common.{◌≡◌, ◌++◌, ◌-◌, length, take, drop}
use Rattle.std.specs.Prelude.{replicate}
use Rattle.sums.proofs.Stretches.{ran, tops}
use Rattle.lent.proofs.stretches.integrate_outputs.Given as goal

abbrev pub invariant-loop-i : goal.invariant-loop-i
invariant-loop-i g l =
    (length l.held ≡ 8)
    × (ran g.W.Word.ops l.n (replicate (l.to - l.from) l.x) l.fn.cells ≡ ran g.W.Word.ops l.n (replicate (l.to - l.i) l.x) l.held)
    × (take l.from l.fn.out ++ (tops g.W.Word.ops l.n (replicate (l.to - l.from) l.x) l.fn.cells ++ drop l.to l.fn.out)
    ≡ take l.i l.out ++ (tops g.W.Word.ops l.n (replicate (l.to - l.i) l.x) l.held ++ drop l.to l.out))
