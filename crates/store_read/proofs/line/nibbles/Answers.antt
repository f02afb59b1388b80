-- No section is `-`; otherwise the nibbles are digits.
use Rattle.std.proofs.Common.{sym, ◌∙◌}
use Rattle.store_read.proofs.Counting.{dash, no_dash, some_nibbles}
use Rattle.store_read.proofs.line.nibbles.Goals as goal

pub returns-then-k-gt0 : goal.returns-then-k-gt0
returns-then-k-gt0 c = c.hexes.ensures ∙ some_nibbles c.args.k c.args.field.now c.if-k-gt0.true

pub returns-then-same_bytes : goal.returns-then-same_bytes
returns-then-same_bytes c =
    dash c.args.k c.args.field.now c.if-k-gt0.false (sym c.same_bytes.ensures ∙ c.if-same_bytes.true)

pub returns : goal.returns
returns c =
    no_dash c.args.k c.args.field.now c.if-k-gt0.false (sym c.same_bytes.ensures ∙ c.if-same_bytes.false)
