-- What was read lies within the buffer, and each turn reads a byte more.
use Rattle.std.proofs.Common.{length, ◌-◌, ◌≤◌}
use Rattle.settings.proofs.take_all.Given as goal

abbrev pub invariant-loop-len : goal.invariant-loop-len
invariant-loop-len g l = l.len ≤ length l.text

abbrev pub decreases-loop-len : goal.decreases-loop-len
decreases-loop-len g l = length l.initial.text - l.len
