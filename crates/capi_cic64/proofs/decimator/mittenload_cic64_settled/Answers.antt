-- Refused, or the part's place.
use Rattle.std.proofs.Common.{arith}
use Rattle.cic_calls.proofs.Handed.{fits, settles_not, settles}
use Rattle.capi_cic64.proofs.decimator.mittenload_cic64_settled.Goals as goal

pub returns-then-out-written : goal.returns-then-out-written
returns-then-out-written c = settles_not _ _ _ _ _ c.if-out-written.true

pub overflow_sub-first : goal.overflow_sub-first
overflow_sub-first c = fits _ _ _ _ c.if-out-written.false c.settled_part-part.ensures

pub returns : goal.returns
returns c = settles _ _ _ _ _ _ c.if-out-written.false c.settled_part-part.ensures
