-- The block's promise, on the state that stands in the lent fields (Handed).
use Rattle.capi_loops.proofs.Handed.{number_left, locks_all}
use Rattle.capi_loops.proofs.loops.mittenload_rpll_block.Goals as goal

pub returns-clause-number : goal.returns-clause-number
returns-clause-number c =
    let b = c.block-answer in
    number_left _ _ _ _ b.new.state b.new.state _ _ _ _ _ _ b.result c.number.result c.config_in-config.ensures c.rpll_in-state.ensures b.ensures c.number.ensures

pub returns-clause-blocked : goal.returns-clause-blocked
returns-clause-blocked c =
    let b = c.block-answer in
    locks_all _ _ _ _ _ b.new.state _ _ _ _ _ _ b.result c.number.result c.config_in-config.ensures c.rpll_in-state.ensures b.ensures c.number.ensures c.rpll_out.ensures
