use Rattle.biquad.specs.Forms.{held2, onward2}
use Rattle.biquad.specs.Answers.{limit_number}
use Rattle.capi_filters.proofs.Handed.{limit_told, handed_by}
use Rattle.capi_filters.proofs.blocks_of.mittenload_df2t_clamp.Goals as goal

pub returns : goal.returns
returns c =
    handed_by limit_number held2 onward2 _ c.float_clamp_in-coeff.result _ c.df2t_in-state.result _ c.block_clamp-done.new.self _ _ _ _ _ limit_told
    c.float_clamp_in-coeff.ensures c.df2t_in-state.ensures c.block_clamp-done.ensures c.df2t_out.ensures c.number.ensures
