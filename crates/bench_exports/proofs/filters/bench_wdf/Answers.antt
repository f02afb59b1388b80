-- The block's promise, on the fresh filter.
use Rattle.std.proofs.Common.{◌≡◌, ◌∙◌, w32}
use mir.ValLaws.{to_z-of_z}
use Rattle.bench_exports.specs.Fresh.{alike_wdf}
use Rattle.bench_exports.proofs.filters.bench_wdf.Goals as goal

pub returns : goal.returns
returns c =
    let n = c.args.sections in let m = c.args.architecture in let a = c.args.a in
    let made : c.unwrap_or-filter.result ≡ alike_wdf n m a =
    c.unwrap_or-filter.ensures ∙ rw (to_z-of_z w32 a c.ranges.a) at c.from_form1.ensures.1 in
    rw made at c.block-ran.ensures.written
