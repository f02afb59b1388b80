-- The buffer keeps its length.
use Rattle.std.proofs.Common.{◌≡◌, length}
use Rattle.compare_replay.proofs.decode.Given as goal

abbrev pub invariant-loop-i : goal.invariant-loop-i
invariant-loop-i l = length l.to ≡ length l.initial.to
