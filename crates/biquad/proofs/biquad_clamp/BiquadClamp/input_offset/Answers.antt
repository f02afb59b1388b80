-- The test of the gain is the number's, once the gain is the callees' promise.
use Rattle.std.proofs.Common.{◌∙◌, ap}
use Rattle.blocks.specs.Refusals.{answer, refusal_at}
use Rattle.biquad.specs.Coefficients.{forward_gain}
use Rattle.biquad.proofs.biquad_clamp.BiquadClamp.input_offset.Goals as goal

pub returns-then-gain : goal.returns-then-gain
unfolding answer refusal_at
returns-then-gain c =
    let gain = c.forward_gain-gain.ensures ∙ ap forward_gain c.coeff.ensures in rw (rw gain at c.if-gain.true)

pub returns : goal.returns
unfolding answer
returns c =
    let gain = c.forward_gain-gain.ensures ∙ ap forward_gain c.coeff.ensures in rw (gain, rw gain at c.if-gain.false)
