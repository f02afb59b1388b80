-- Each line leaves less.
use Rattle.std.proofs.Common.{length, ◌≤◌}
use Rattle.wav_out.proofs.Taking.take.Given as goal

abbrev pub invariant-loop-end : goal.invariant-loop-end
invariant-loop-end l = length l.rest ≤ length l.bytes

abbrev pub decreases-loop-end : goal.decreases-loop-end
decreases-loop-end l = length l.rest
