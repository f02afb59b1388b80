-- Output by output.
use Rattle.std.proofs.Common.{◌-◌, ◌≤◌, length}
use Rattle.record.proofs.parts.put_outputs.Given as goal

abbrev pub invariant-loop-i : goal.invariant-loop-i
invariant-loop-i l = l.end ≤ length l.given

abbrev pub decreases-loop-i : goal.decreases-loop-i
decreases-loop-i l = l.end - l.i
