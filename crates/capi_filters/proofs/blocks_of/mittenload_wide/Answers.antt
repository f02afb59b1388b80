use Rattle.biquad_fixed.specs.Forms.{wide_out, wide_next}
use Rattle.biquad_fixed.specs.Answers.{fraction_number}
use Rattle.capi_filters.proofs.Handed.{fraction_told, handed_by}
use Rattle.capi_filters.proofs.blocks_of.mittenload_wide.Goals as goal

pub returns : goal.returns
returns c =
    handed_by (fraction_number 0) wide_out wide_next _ c.word_in-coeff.result _ c.wide_in-state.result _ c.block-done.new.self _ _ _ _ _ (fraction_told 0)
    c.word_in-coeff.ensures c.wide_in-state.ensures c.block-done.ensures c.wide_out.ensures c.number.ensures
