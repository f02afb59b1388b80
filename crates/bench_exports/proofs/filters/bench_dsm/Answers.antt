-- The block's promise, on the fresh modulator.
use Rattle.std.proofs.Common.{◌≡◌, ◌∙◌}
use Rattle.bench_exports.specs.Fresh.{fresh_dsm}
use Rattle.bench_exports.proofs.filters.bench_dsm.Goals as goal

pub returns : goal.returns
returns c =
    let made : c.unwrap_or-filter.result ≡ fresh_dsm c.args.order = c.unwrap_or-filter.ensures ∙ c.new.ensures.1 in
    rw made at c.block-ran.ensures.written
