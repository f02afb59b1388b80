use Rattle.blocks.proofs.Turns.{Going}
use Rattle.lent.specs.Reading.{counted}
use Rattle.cic.specs.Reading.{cic_of}
use Rattle.bench_exports.specs.Fresh.{step_out, step_next}
use Rattle.bench_exports.proofs.decimators.lent_all.Given as goal

abbrev pub invariant-loop-i : goal.invariant-loop-i
invariant-loop-i l =
    Going step_out step_next (cic_of (counted l.initial.numbers l.initial.integrators l.initial.combs)) l.xs l.ys
    (cic_of (counted l.numbers l.integrators l.combs)) l.i
