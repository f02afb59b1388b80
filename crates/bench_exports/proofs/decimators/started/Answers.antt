-- Made, or what stands in its place.
use Rattle.std.proofs.Common.{◌∙◌}
use Rattle.bench_exports.proofs.decimators.started.Goals as goal

pub returns : goal.returns
returns g c = rw c.blank.ensures at c.unwrap_or.ensures ∙ c.new.ensures.1
