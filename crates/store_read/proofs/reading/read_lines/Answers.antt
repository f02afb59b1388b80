-- A line more, or one that is refused.
use Rattle.std.proofs.Common.{◌≡◌, [], ◌∷◌}
use Rattle.text.specs.Parts.{parted}
use Rattle.store_read.proofs.Turns.{Going, some_left, none_left, over, unended, stops, takes}
use Rattle.store_read.proofs.reading.read_lines.Goals as goal

pub returns-in_default : goal.returns-in_default
returns-in_default c =
    let g : Going c.args.version c.args.text.now c.loop-left.entries c.loop-left.last c.loop-left.count c.loop-left.left.now = c.loop-left.invariant in
    let p : parted 10 c.loop-left.left.now ≡ c.cut.result.0.now ∷ [] = rw c.in_default.is at c.cut.ensures in
    unended _ _ _ _ _ _ g _ p (some_left _ _ c.is_empty.ensures c.loop-left-test.true)

pub bounds-entries-count : goal.bounds-entries-count
bounds-entries-count c =
    let g : Going c.args.version c.args.text.now c.loop-left.entries c.loop-left.last c.loop-left.count c.loop-left.left.now = c.loop-left.invariant in
    let p : parted 10 c.loop-left.left.now ≡ c.cut.result.0.now ∷ parted 10 c.in-Some.rest.now = rw c.in-Some.is at c.cut.ensures in
    (takes _ _ _ _ _ _ g _ _ p c.in-Ok.entry c.in-Ok.ensures).room

pub loop-left-preserved : goal.loop-left-preserved
loop-left-preserved c =
    let g : Going c.args.version c.args.text.now c.loop-left.entries c.loop-left.last c.loop-left.count c.loop-left.left.now = c.loop-left.invariant in
    let p : parted 10 c.loop-left.left.now ≡ c.cut.result.0.now ∷ parted 10 c.in-Some.rest.now = rw c.in-Some.is at c.cut.ensures in
    (takes _ _ _ _ _ _ g _ _ p c.in-Ok.entry c.in-Ok.ensures).going

pub returns-in-Err : goal.returns-in-Err
returns-in-Err c =
    let g : Going c.args.version c.args.text.now c.loop-left.entries c.loop-left.last c.loop-left.count c.loop-left.left.now = c.loop-left.invariant in
    let p : parted 10 c.loop-left.left.now ≡ c.cut.result.0.now ∷ parted 10 c.in-Some.rest.now = rw c.in-Some.is at c.cut.ensures in
    stops _ _ _ _ _ _ g _ _ p c.in-Err.refusal c.in-Err.ensures

pub returns : goal.returns
returns c =
    let g : Going c.args.version c.args.text.now c.loop-left.entries c.loop-left.last c.loop-left.count [] =
    rw (none_left _ _ c.is_empty.ensures c.loop-left-test.false) at c.loop-left.invariant in
    over _ _ _ _ _ g
