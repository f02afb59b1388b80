use Rattle.fir.specs.Inner.{kept}
use Rattle.fir.proofs.Standing.{Keeps}
use Rattle.fir.proofs.keep.Given as goal

abbrev pub invariant-loop-n : goal.invariant-loop-n
invariant-loop-n l = Keeps (kept l.cells l.input) l.n l.last
