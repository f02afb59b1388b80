-- By what the step answered, with its sample read back from its bits.
use Rattle.std.proofs.Common.{◌∙◌, w64}
use Rattle.std.specs.Prelude.{None}
use mir.ValLaws.{to_z-of_z}
use Rattle.records.proofs.Taking.{step-taken, step-refused}
use Rattle.records.proofs.session.take_sample.Goals as goal

pub returns-in-Ok-Some : goal.returns-in-Ok-Some
returns-in-Ok-Some c =
    let a = c.args in let e = to_z-of_z w64 a.x c.ranges.x in let i = c.in-Ok-Some in let h = rw (i.field-0-is, e) at i.ensures in
    (rw c.output_in.ensures at c.with_filter.ensures) ∙ step-taken a.s a.x c.decimate.new.self h.0 _ h.1

pub returns-in-Ok-None : goal.returns-in-Ok-None
returns-in-Ok-None c =
    let a = c.args in let e = to_z-of_z w64 a.x c.ranges.x in let i = c.in-Ok-None in let h = rw (i.field-0-is, e) at i.ensures in
    c.with_filter-in-Ok-None.ensures ∙ step-taken a.s a.x c.decimate.new.self h.0 None h.1

pub returns-in-Err : goal.returns-in-Err
returns-in-Err c =
    let a = c.args in let e = to_z-of_z w64 a.x c.ranges.x in let h = rw e at c.in-Err.ensures in
    (rw c.number.ensures at c.refused.ensures) ∙ step-refused a.s a.x c.decimate.new.self c.in-Err.refusal h.1
