use lib.Ieee.{of_bits, neg}
use Rattle.adapters.specs.Quantize.{coefficient_of}
use Rattle.adapters.proofs.tpa.Tpa.coefficient.Goals as goal

pub returns-in-D : goal.returns-in-D
unfolding of_bits neg coefficient_of
returns-in-D c = rw c.in-D.is
