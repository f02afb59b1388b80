use Rattle.std.proofs.Common.{take, ◌*◌, ◌+◌}
use Rattle.fir.specs.Inner.{kept}
use Rattle.fir.proofs.Summing.{Sums}
use Rattle.fir.proofs.weigh.Given as goal

abbrev pub invariant-loop-row : goal.invariant-loop-row
invariant-loop-row l = Sums (kept l.cells (take l.taken l.input)) (l.row * 10) l.sum

abbrev pub invariant-loop-place : goal.invariant-loop-place
invariant-loop-place l = Sums (kept l.cells (take l.taken l.input)) (l.row * 10 + l.place) l.sum
