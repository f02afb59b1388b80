-- What was made, or the caller's filter and the refusal's number.
use Rattle.std.specs.Int.{w32}
use Rattle.sums.specs.Signed.{signed_ops}
use Rattle.cic_calls.proofs.Handed.{new_not, new_done}
use Rattle.capi_cic.proofs.decimator.mittenload_cic_new.Goals as goal

pub returns-in-Ok : goal.returns-in-Ok
returns-in-Ok c = new_done (signed_ops w32) _ _ _ _ _ _ c.in-Ok.ensures.0 c.spread.ensures

pub returns-in-Err : goal.returns-in-Err
returns-in-Err c = new_not (signed_ops w32) _ _ _ _ _ _ c.in-Err.ensures.0 c.number.ensures
