-- What was made, or the caller's filter and the refusal's number.
use Rattle.std.specs.Int.{w64}
use Rattle.sums.specs.Signed.{signed_ops}
use Rattle.cic_calls.proofs.Handed.{resume_not, resume_done}
use Rattle.capi_cic64.proofs.decimator.mittenload_cic64_resume.Goals as goal

pub returns-in-Ok : goal.returns-in-Ok
returns-in-Ok c = resume_done (signed_ops w64) _ c.gathered-s.result c.gathered-s.ensures _ _ c.in-Ok.ensures c.spread.ensures

pub returns-in-Err : goal.returns-in-Err
returns-in-Err c = resume_not (signed_ops w64) _ c.gathered-s.result c.gathered-s.ensures _ _ c.in-Err.ensures c.number.ensures
