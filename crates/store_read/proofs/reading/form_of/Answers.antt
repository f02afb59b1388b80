-- The first line is form 2's, or another, or none.
use Rattle.std.proofs.Common.{◌≡◌, [], ◌∷◌}
use Rattle.text.specs.Parts.{parted}
use Rattle.store_read.proofs.Turns.{no_form, line_form}
use Rattle.store_read.proofs.reading.form_of.Goals as goal

pub returns-then-opens : goal.returns-then-opens
returns-then-opens c =
    let p : parted 10 c.args.text.now ≡ c.cut.result.0.now ∷ parted 10 c.in-Some.field-0.now = rw c.in-Some.is at c.cut.ensures in
    rw (← line_form _ _ _ p, ← c.opens.ensures, c.if-opens.true)

pub returns-else-opens : goal.returns-else-opens
returns-else-opens c =
    let p : parted 10 c.args.text.now ≡ c.cut.result.0.now ∷ parted 10 c.in-Some.field-0.now = rw c.in-Some.is at c.cut.ensures in
    rw (← line_form _ _ _ p, ← c.opens.ensures, c.if-opens.false)

pub returns-in_default : goal.returns-in_default
returns-in_default c =
    let p : parted 10 c.args.text.now ≡ c.cut.result.0.now ∷ [] = rw c.in_default.is at c.cut.ensures in
    no_form _ _ p
