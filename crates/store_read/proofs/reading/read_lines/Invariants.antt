-- The settings so far, and the lines that are left.
use Rattle.std.proofs.Common.{length}
use Rattle.text.specs.Parts.{parted}
use Rattle.store_read.proofs.Turns.{Going}
use Rattle.store_read.proofs.reading.read_lines.Given as goal

abbrev pub invariant-loop-left : goal.invariant-loop-left
invariant-loop-left l = Going l.version l.text l.entries l.last l.count l.left

abbrev pub decreases-loop-left : goal.decreases-loop-left
decreases-loop-left l = length (parted 10 l.left)
