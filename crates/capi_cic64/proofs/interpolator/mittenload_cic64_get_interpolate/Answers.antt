-- The call's promise, on the filter that stands in the lent fields.
use Rattle.std.proofs.Common.{rules, ◌≡◌, to_z, of_z}
use Rattle.std.specs.Int.{w64}
use Rattle.sums.specs.Signed.{signed_ops}
use Rattle.cic_calls.proofs.Handed.{get-interpolate}
use Rattle.capi_cic64.proofs.interpolator.mittenload_cic64_get_interpolate.Goals as goal

pub returns : goal.returns
returns c =
    let new : to_z w64 (of_z w64 c.unwrap_or.result) ≡ c.unwrap_or.result = search rules in
    let old : to_z w64 (of_z w64 c.args.value.now) ≡ c.args.value.now = search rules in
    rw new
    (get-interpolate (signed_ops w64) _ c.gathered-s.result _ _ c.get_interpolate-out.result _ c.gathered-s.ensures c.get_interpolate-out.ensures
    (rw old at c.unwrap_or.ensures) c.number.ensures)
