-- A decimator's steps as a `Filter`.
use Rattle.std.specs.Prelude.{ℤ}
use Rattle.cic.specs.declared.state.Cic.{Cic}
use Rattle.bench_exports.specs.declared.decimators.Steps.{Steps}
use Rattle.bench_exports.specs.Fresh.{step_out, step_next}

abbrev pub steps_of : Cic ℤ → Steps
steps_of s = record { filter = s }

abbrev pub step_of : Steps → ℤ → ℤ
step_of s x = step_out s.filter x

abbrev pub after_step : Steps → ℤ → Steps
after_step s x = steps_of (step_next s.filter x)
