-- Refused, or what the block left (Handed).
use Rattle.capi_loops.proofs.Handed.{tracks, tracks_not}
use Rattle.capi_loops.proofs.loops.mittenload_pll.Goals as goal

pub returns-in-Ok : goal.returns-in-Ok
returns-in-Ok c =
    tracks _ _ _ _ _ _ _ _ c.loop_in-coeff.ensures c.pll_in-state.ensures _ c.in-Ok.ensures c.pll_out.ensures

pub returns-in-Err : goal.returns-in-Err
returns-in-Err c =
    rw c.number.ensures (tracks_not _ _ _ _ _ _ _ _ c.loop_in-coeff.ensures c.pll_in-state.ensures c.in-Err.refusal c.in-Err.ensures)
