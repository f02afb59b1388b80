use Rattle.unwrap.specs.Phases.{step_of, grown}
use Rattle.capi_filters.proofs.Handed.{no_number, handed}
use Rattle.capi_filters.proofs.blocks_of.mittenload_unwrapper.Goals as goal

pub returns : goal.returns
returns c =
    handed 0 step_of grown _ _ c.block-done.new.self _ _ _ _ _ no_number (rw c.unwrapper_in-state.ensures at c.block-done.ensures)
    c.unwrapper_out.ensures c.number.ensures
