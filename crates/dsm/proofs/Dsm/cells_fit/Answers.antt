use Rattle.std.proofs.Common.{sym, ◌∙◌}
use Rattle.blocks.specs.Refusals.{answer, refusal_at}
use Rattle.dsm.proofs.Dsm.cells_fit.Goals as goal

pub returns-then-cells_in_range : goal.returns-then-cells_in_range
unfolding answer
returns-then-cells_in_range c = rw (sym c.cells_in_range.ensures ∙ c.if-cells_in_range.true)

pub returns : goal.returns
unfolding answer refusal_at
returns c = rw (sym c.cells_in_range.ensures ∙ c.if-cells_in_range.false)
