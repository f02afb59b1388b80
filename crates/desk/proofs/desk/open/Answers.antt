-- The tests of the definition, in turn.
use Rattle.std.proofs.Common.{sym, ap, ◌∙◌, eq-eqb, ne_eqb}
use Rattle.desk.specs.Desks.{readied, open_taken}
use Rattle.desk.proofs.desk.open.Goals as goal

pub returns-then-d : goal.returns-then-d
unfolding open_taken
returns-then-d c = c.refused.ensures ∙ sym (rw c.if-d.true)

pub returns-then-number-ne0 : goal.returns-then-number-ne0
unfolding open_taken
returns-then-number-ne0 c = c.refused-then-number-ne0.ensures ∙ sym (rw (c.if-d.false, ne_eqb _ _ c.if-number-ne0.true))

pub returns : goal.returns
unfolding open_taken
returns c = c.readied.ensures ∙ ap (readied c.args.d) c.open-r.ensures.0 ∙ sym (rw (c.if-d.false, eq-eqb _ _ c.if-number-ne0.false))
