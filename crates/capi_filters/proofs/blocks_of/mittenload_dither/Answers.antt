use Rattle.biquad_fixed.specs.Forms.{dither_out, dither_next}
use Rattle.biquad_fixed.specs.Answers.{fraction_number}
use Rattle.capi_filters.proofs.Handed.{fraction_told, handed_by}
use Rattle.capi_filters.proofs.blocks_of.mittenload_dither.Goals as goal

pub returns : goal.returns
returns c =
    handed_by (fraction_number 1) dither_out dither_next _ c.word_in-coeff.result _ c.dither_in-state.result _ c.block-done.new.self _ _ _ _ _ (fraction_told 1)
    c.word_in-coeff.ensures c.dither_in-state.ensures c.block-done.ensures c.dither_out.ensures c.number.ensures
