-- The call's promise, with the coefficients that were asked for.
use Rattle.std.proofs.Common.{◌∙◌}
use Rattle.biquad_fixed.specs.Forms.{dither_out, dither_next}
use Rattle.biquad_fixed.specs.Answers.{fraction_number}
use Rattle.bench_exports.specs.Fresh.{zero_dither}
use Rattle.bench_exports.proofs.Handing.{handed, biquad_sent}
use Rattle.bench_exports.proofs.filters.bench_dither.Goals as goal

pub returns : goal.returns
returns c =
    let a = c.args in let g = c.ranges in
    let e = c.coefficients-coeff.ensures ∙ biquad_sent a.f g.b0 g.b1 g.b2 g.a1 g.a2 in
    handed (fraction_number 1) dither_out dither_next a.xs.now a.ys.now _ _ zero_dither _ _ _ e c.block-ran.ensures
