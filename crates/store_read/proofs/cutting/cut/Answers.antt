-- Up to the separator, and behind it.
use Rattle.store_read.proofs.Parts.{one_left, two_left}
use Rattle.store_read.proofs.cutting.cut.Goals as goal

pub returns-then-text-end : goal.returns-then-text-end
returns-then-text-end c = one_left c.args.sep c.args.text.now c.part_end-end.result c.part_end-end.ensures c.if-text-end.true

pub returns : goal.returns
returns c = two_left c.args.sep c.args.text.now c.part_end-end.result c.part_end-end.ensures c.if-text-end.false
