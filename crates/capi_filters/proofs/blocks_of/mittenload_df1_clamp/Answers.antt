use Rattle.biquad.specs.Forms.{held1, onward1}
use Rattle.biquad.specs.Answers.{limit_number}
use Rattle.capi_filters.proofs.Handed.{limit_told, handed_by}
use Rattle.capi_filters.proofs.blocks_of.mittenload_df1_clamp.Goals as goal

pub returns : goal.returns
returns c =
    handed_by limit_number held1 onward1 _ c.float_clamp_in-coeff.result _ c.df1_in-state.result _ c.block_clamp-done.new.self _ _ _ _ _ limit_told
    c.float_clamp_in-coeff.ensures c.df1_in-state.ensures c.block_clamp-done.ensures c.df1_out.ensures c.number.ensures
