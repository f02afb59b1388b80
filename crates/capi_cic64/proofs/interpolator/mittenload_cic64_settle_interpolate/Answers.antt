-- The call's promise, on the filter that stands in the lent fields.
use mir.ValLaws.{to_z-of_z}
use Rattle.std.specs.Int.{w64}
use Rattle.sums.specs.Signed.{signed_ops}
use Rattle.cic_calls.proofs.Handed.{settle}
use Rattle.capi_cic64.proofs.interpolator.mittenload_cic64_settle_interpolate.Goals as goal

pub returns : goal.returns
returns c = settle (signed_ops w64) _ _ _ _ _ _ c.gathered-s.ensures c.spread.ensures c.number.ensures _
    (rw (to_z-of_z w64 c.args.x c.ranges.x) at c.settle_interpolate-settled.ensures)
