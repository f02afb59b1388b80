use Rattle.biquad.specs.Forms.{sum2, next2}
use Rattle.capi_filters.proofs.Handed.{no_number, handed_by}
use Rattle.capi_filters.proofs.blocks_of.mittenload_df2t.Goals as goal

pub returns : goal.returns
returns c =
    handed_by (λ q. 0) sum2 next2 _ c.float_in-coeff.result _ c.df2t_in-state.result _ c.block-done.new.self _ _ _ _ _ (λ q. no_number)
    c.float_in-coeff.ensures c.df2t_in-state.ensures c.block-done.ensures c.df2t_out.ensures c.number.ensures
