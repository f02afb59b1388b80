use Rattle.std.proofs.Common.{length, ◌-◌}
use Rattle.side_by_side.proofs.take_text.Given as goal

abbrev pub decreases-loop-from : goal.decreases-loop-from
decreases-loop-from l = length l.text - l.from
