-- The integrators, said by what is left of the inputs.
use Rattle.std.proofs.Common.{◌≡◌, length}
use Rattle.std.proofs.Math.Seq.{slice}
use Rattle.sums.proofs.Stretches.{ran}
use Rattle.lent.proofs.stretches.integrate_inputs.Given as goal

abbrev pub invariant-loop-i : goal.invariant-loop-i
invariant-loop-i g l =
    (length l.held ≡ 8) × (ran g.W.Word.ops l.n (slice l.from l.to l.input) l.fn.cells ≡ ran g.W.Word.ops l.n (slice l.i l.to l.input) l.held)
