use Rattle.biquad_fixed.specs.Forms.{wide_held, wide_onward}
use Rattle.biquad_fixed.specs.Answers.{clamp_number}
use Rattle.capi_filters.proofs.Handed.{clamp_told, handed_by}
use Rattle.capi_filters.proofs.blocks_of.mittenload_wide_clamp.Goals as goal

pub returns : goal.returns
returns c =
    handed_by (clamp_number 0) wide_held wide_onward _ c.word_clamp_in-coeff.result _ c.wide_in-state.result _ c.block_clamp-done.new.self _ _ _ _ _ (clamp_told 0)
    c.word_clamp_in-coeff.ensures c.wide_in-state.ensures c.block_clamp-done.ensures c.wide_out.ensures c.number.ensures
