-- The call's promise, with the coefficients and the limits that were asked for.
use Rattle.std.proofs.Common.{◌∙◌}
use Rattle.biquad_fixed.specs.Forms.{dither_held, dither_onward}
use Rattle.biquad_fixed.specs.Answers.{clamp_number}
use Rattle.bench_exports.specs.Fresh.{zero_dither}
use Rattle.bench_exports.proofs.Handing.{handed, biquad_sent, clamp_sent}
use Rattle.bench_exports.proofs.filters.bench_dither_clamp.Goals as goal

pub returns : goal.returns
returns c =
    let a = c.args in let g = c.ranges in
    let e = c.coefficients-coeff.ensures ∙ biquad_sent a.f g.b0 g.b1 g.b2 g.a1 g.a2 in
    let l = (rw e at c.bounded-limited.ensures) ∙ clamp_sent g.u g.min g.max _ in
    handed (clamp_number 1) dither_held dither_onward a.xs.now a.ys.now _ _ zero_dither _ _ _ l c.block_clamp-ran.ensures
