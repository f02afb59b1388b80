-- A retired adapter first. The code's two tests are the definition's one; where both hold, the bits are the nearest.
use Rattle.std.proofs.Common.{w32}
use lib.Ieee.{of_bits, neg}
use Rattle.words.proofs.Reading.{read}
use Rattle.adapters.specs.Quantize.{quantized}
use Rattle.adapters.proofs.tpa.Tpa.quantize.Goals as goal
use Rattle.adapters.proofs.tpa.Tpa.quantize.Goals.{else-a-via-then-a+else-a-2, else-a-via-else-a}

pub nearest_bits-requires : goal.nearest_bits-requires
unfolding of_bits neg
nearest_bits-requires c = rw (c.if-a.true, c.if-a-2.true) tt

pub returns-then-a-2 : goal.returns-then-a-2
unfolding of_bits neg quantized
returns-then-a-2 c =
    rw (
      read w32 c.nearest_bits.result c.nearest_bits.type_inv,
      c.nearest_bits.ensures,
      ← c.is_retired.ensures,
      c.if-is_retired.false,
      ← c.coefficient-a.ensures,
      c.if-a.true,
      c.if-a-2.true,
    )

pub returns : goal.returns
unfolding of_bits neg quantized
returns c =
    elim c.else-a.branch [
      | else-a-via-then-a+else-a-2 w ↦ rw (← c.is_retired.ensures, c.if-is_retired.false, ← c.coefficient-a.ensures, w.if-a.true, w.if-a-2.false)
      | else-a-via-else-a w ↦ rw (← c.is_retired.ensures, c.if-is_retired.false, ← c.coefficient-a.ensures, w.if-a.false)
    ]
