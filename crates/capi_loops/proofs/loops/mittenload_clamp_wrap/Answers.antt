-- Refused, or what the block left (Handed).
use Rattle.capi_loops.proofs.Handed.{clamps, clamps_not}
use Rattle.capi_loops.proofs.loops.mittenload_clamp_wrap.Goals as goal

pub returns-in-Ok : goal.returns-in-Ok
returns-in-Ok c =
    clamps _ _ _ _ _ _ _ c.clamp_in-state.ensures _ _ c.in-Ok.ensures c.clamp_out.ensures.0 c.clamp_out.ensures.1

pub returns-in-Err : goal.returns-in-Err
returns-in-Err c = rw c.number.ensures (clamps_not _ _ _ _ _ _ _ c.clamp_in-state.ensures c.in-Err.refusal c.in-Err.ensures)
