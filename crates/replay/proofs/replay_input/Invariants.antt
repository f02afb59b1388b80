-- The buffers keep their lengths, so that there is room at each turn and at the end.
use Rattle.std.proofs.Common.{◌≡◌, length}
use Rattle.replay.proofs.replay_input.Given as goal

abbrev pub invariant-loop : goal.invariant-loop
invariant-loop g l = (length l.buffer ≡ length l.initial.buffer) × (length l.out ≡ length l.initial.out)
