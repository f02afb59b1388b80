use Rattle.capi_filters.proofs.Handed.{modulated}
use Rattle.capi_filters.proofs.blocks_of.mittenload_dsm.Goals as goal

pub returns : goal.returns
returns c =
    modulated _ _ c.block-done.new.self _ _ _ _ _ (rw c.dsm_in-state.ensures at c.block-done.ensures) c.dsm_out.ensures c.number.ensures
