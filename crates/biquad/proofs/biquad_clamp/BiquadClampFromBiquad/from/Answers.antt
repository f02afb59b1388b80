-- The quotients of one by zero compute to the infinities.
use Rattle.std.proofs.Common.{refl}
use lib.Ieee.{div, neg, of_bits}
use Rattle.biquad.proofs.biquad_clamp.BiquadClampFromBiquad.from.Goals as goal

pub returns : goal.returns
unfolding div neg of_bits
returns c = refl
