-- A field more, or a field that is no such number.
use Rattle.std.proofs.Common.{◌∷◌, [], arith}
use Rattle.std.specs.Option.{option_copied}
use Rattle.text.specs.Parts.{parted}
use Rattle.text.specs.Ranges.{range}
use Rattle.store_read.specs.Reading.{parts_left}
use Rattle.store_read.proofs.Parts.{parts_most}
use Rattle.store_read.proofs.Counting.{Counting, counting_over, counting_stops, counting_on}
use Rattle.store_read.proofs.line.numbers_of.Goals as goal

pub returns-in_default-word_of : goal.returns-in_default-word_of
returns-in_default-word_of c =
    let v : Counting (range c.args.least c.args.most) (parted 9 c.args.text.now) c.loop-left.words c.loop-left.count
    (c.cut.result.0.now ∷ parts_left 9 (option_copied c.cut.result.1)) = rw (c.in-Some.is, c.cut.ensures) at c.loop-left.invariant in
    counting_stops _ _ _ _ _ _ v c.in_default-word_of.ensures

pub overflow_add-count : goal.overflow_add-count
overflow_add-count c =
    let v : Counting (range c.args.least c.args.most) (parted 9 c.args.text.now) c.loop-left.words c.loop-left.count
    (c.cut.result.0.now ∷ parts_left 9 (option_copied c.cut.result.1)) = rw (c.in-Some.is, c.cut.ensures) at c.loop-left.invariant in
    let a = v.all in
    let m = parts_most 9 c.args.text.now in
    record { fits = omega arith }

pub loop-left-preserved : goal.loop-left-preserved
loop-left-preserved c =
    let v : Counting (range c.args.least c.args.most) (parted 9 c.args.text.now) c.loop-left.words c.loop-left.count
    (c.cut.result.0.now ∷ parts_left 9 (option_copied c.cut.result.1)) = rw (c.in-Some.is, c.cut.ensures) at c.loop-left.invariant in
    rw c.keep.ensures (counting_on _ _ _ _ _ _ v c.in-Some-word_of.w c.in-Some-word_of.ensures)

pub returns : goal.returns
returns c =
    let v : Counting (range c.args.least c.args.most) (parted 9 c.args.text.now) c.loop-left.words c.loop-left.count [] =
    rw c.in_default.is at c.loop-left.invariant in
    counting_over _ _ _ _ v
