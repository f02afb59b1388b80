-- The place written to is never behind the one read from.
use Rattle.std.proofs.Common.{◌-◌, ◌≤◌, length}
use Rattle.record.proofs.to_front.Given as goal

abbrev pub invariant-loop-i : goal.invariant-loop-i
invariant-loop-i l = (l.k ≤ l.i) × (l.end ≤ length l.buffer)

abbrev pub decreases-loop-i : goal.decreases-loop-i
decreases-loop-i l = l.end - l.i
