use Rattle.std.proofs.Common.{◌≤◌}
use Rattle.wav_copy.proofs.run.Given as goal

abbrev pub invariant-loop : goal.invariant-loop
invariant-loop g l = l.held ≤ 1
