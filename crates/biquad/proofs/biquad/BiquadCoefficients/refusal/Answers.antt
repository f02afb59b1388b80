use Rattle.std.proofs.Common.{refl}
use Rattle.blocks.specs.Refusals.{answer}
use Rattle.biquad.proofs.biquad.BiquadCoefficients.refusal.Goals as goal

pub returns : goal.returns
unfolding answer
returns c = refl
