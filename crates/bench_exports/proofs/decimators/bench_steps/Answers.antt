-- The block's steps are those of the filter that it holds.
use Rattle.std.proofs.Common.{refl}
use Rattle.blocks.proofs.Carried.{carried_scan}
use Rattle.bench_exports.specs.Fresh.{step_out, step_next}
use Rattle.bench_exports.specs.Steps.{steps_of, step_of, after_step}
use Rattle.bench_exports.proofs.decimators.bench_steps.Goals as goal

pub returns : goal.returns
returns c =
    rw (c.started.ensures, carried_scan step_out step_next step_of after_step steps_of (λ s x. refl) (λ s x. refl)) at c.block-ran.ensures.written
