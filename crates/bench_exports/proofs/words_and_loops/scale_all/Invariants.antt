use Rattle.blocks.proofs.Turns.{Going}
use Rattle.bench_exports.specs.Fresh.{scale_out, scale_next}
use Rattle.bench_exports.proofs.words_and_loops.scale_all.Given as goal

abbrev pub invariant-loop-i : goal.invariant-loop-i
invariant-loop-i l = Going (scale_out l.shift) scale_next l.hi l.xs l.ys l.hi l.i
