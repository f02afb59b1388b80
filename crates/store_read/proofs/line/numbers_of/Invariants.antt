-- The numbers so far, and the fields that are left.
use Rattle.std.proofs.Common.{length}
use Rattle.std.specs.Option.{option_copied}
use Rattle.text.specs.Parts.{parted}
use Rattle.text.specs.Ranges.{range}
use Rattle.store_read.specs.Reading.{parts_left}
use Rattle.store_read.proofs.Counting.{Counting}
use Rattle.store_read.proofs.line.numbers_of.Given as goal

abbrev pub invariant-loop-left : goal.invariant-loop-left
invariant-loop-left l = Counting (range l.least l.most) (parted 9 l.text) l.words l.count (parts_left 9 (option_copied l.left))

abbrev pub decreases-loop-left : goal.decreases-loop-left
decreases-loop-left l = length (parts_left 9 (option_copied l.left))
