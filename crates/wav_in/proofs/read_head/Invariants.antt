use Rattle.std.proofs.Common.{length, ◌-◌, ◌≤◌}
use Rattle.wav_in.proofs.read_head.Given as goal

abbrev pub invariant-loop-done : goal.invariant-loop-done
invariant-loop-done g l = l.done ≤ length l.head

abbrev pub decreases-loop-done : goal.decreases-loop-done
decreases-loop-done g l = length l.initial.head - l.done
