-- Any two results that a promise allows are one: both are the definition's. Order 0 computes.
use mathlib.Core.Path.{sym, ◌∙◌}
use Rattle.dsm.specs.Modulator.{accumulated, carries, output, keeping, modulator_out, next_of}
use Rattle.shaping.specs.Settled.{StepSettled, RunSettled, IdleAtZero}

pub steps_settled : StepSettled
steps_settled s t u x q r g h = (g.state ∙ sym h.state, g.out ∙ sym h.out)

pub runs_settled : RunSettled
runs_settled s t u xs ys q r us vs g h = (g.state ∙ sym h.state, g.verdict ∙ sym h.verdict, g.written ∙ sym h.written)

pub idle_at_zero : IdleAtZero
unfolding accumulated carries output keeping modulator_out next_of
idle_at_zero s x h = (rw h, rw h)
