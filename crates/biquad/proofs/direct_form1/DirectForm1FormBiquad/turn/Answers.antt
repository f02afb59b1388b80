-- The code's operations are the definition's, in its order.
use Rattle.std.proofs.Common.{refl}
use Rattle.biquad.specs.Forms.{sum1}
use Rattle.biquad.proofs.direct_form1.DirectForm1FormBiquad.turn.Goals as goal

pub returns : goal.returns
unfolding sum1
returns c = (refl, refl)
