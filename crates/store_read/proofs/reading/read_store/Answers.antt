-- The first line opens the form, and the lines after it are read.
use Rattle.std.proofs.Common.{◌≡◌, [], ◌∷◌, sym, ap, ◌∙◌}
use Rattle.text.specs.Parts.{parted}
use Rattle.store_read.specs.Reading.{found}
use Rattle.store_read.proofs.Turns.{no_line, other_line, first_line}
use Rattle.store_read.proofs.reading.read_store.Goals as goal

pub returns-then-opens : goal.returns-then-opens
returns-then-opens c =
    let p : parted 10 c.args.text.now ≡ c.cut.result.0.now ∷ parted 10 c.in-Some.lines.now = rw c.in-Some.is at c.cut.ensures in
    c.read_lines.ensures ∙ ap found (first_line _ _ _ _ p (sym c.opens.ensures ∙ c.if-opens.true))

pub returns-else-opens : goal.returns-else-opens
returns-else-opens c =
    let p : parted 10 c.args.text.now ≡ c.cut.result.0.now ∷ parted 10 c.in-Some.lines.now = rw c.in-Some.is at c.cut.ensures in
    other_line _ _ _ _ p (sym c.opens.ensures ∙ c.if-opens.false)

pub returns-in_default : goal.returns-in_default
returns-in_default c =
    let p : parted 10 c.args.text.now ≡ c.cut.result.0.now ∷ [] = rw c.in_default.is at c.cut.ensures in
    no_line _ _ _ p
