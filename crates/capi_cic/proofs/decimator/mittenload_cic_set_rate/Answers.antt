-- The call's promise, on the filter that stands in the lent fields.
use Rattle.std.specs.Int.{w32}
use Rattle.sums.specs.Signed.{signed_ops}
use Rattle.cic_calls.proofs.Handed.{set_rate}
use Rattle.capi_cic.proofs.decimator.mittenload_cic_set_rate.Goals as goal

pub returns : goal.returns
returns c = set_rate (signed_ops w32) _ _ _ _ _ _ c.gathered-s.ensures c.spread.ensures c.number.ensures _ c.set_rate-set.ensures
