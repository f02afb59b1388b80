-- The call's promise, on the filter that stands in the lent fields.
use Rattle.std.specs.Int.{w64}
use Rattle.sums.specs.Signed.{signed_ops}
use Rattle.cic_calls.proofs.Handed.{clear}
use Rattle.capi_cic64.proofs.decimator.mittenload_cic64_clear.Goals as goal

pub returns : goal.returns
returns c = clear (signed_ops w64) _ _ _ _ _ _ c.gathered-s.ensures c.spread.ensures c.number.ensures c.clear-cleared.ensures
