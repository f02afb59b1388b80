-- The buffer keeps its length.
use Rattle.std.proofs.Common.{◌≡◌, length}
use Rattle.compare_replay.proofs.sizes_differ.Given as goal

abbrev pub invariant-loop-size : goal.invariant-loop-size
invariant-loop-size l = length l.out ≡ length l.initial.out
