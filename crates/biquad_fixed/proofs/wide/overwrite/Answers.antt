-- A word above and a word below make a number of 64 bits, so nothing wraps (Halves).
use Rattle.std.proofs.Common.{w32, w64}
use mir.ValLaws.{to_z-of_z}
use Rattle.biquad_fixed.proofs.Halves.{overwritten_is}
use Rattle.biquad_fixed.proofs.wide.overwrite.Goals as goal

pub returns : goal.returns
returns c =
    let a = c.args in
    rw (
      c.from-high.ensures,
      c.low_of-low.ensures,
      to_z-of_z w64 a.acc c.ranges.acc,
      to_z-of_z w32 a.y c.ranges.y,
    )
    (overwritten_is a.acc a.y c.ranges.y)
