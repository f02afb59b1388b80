-- The step's promise by what it gives, on the filter that stands in the lent fields.
use Rattle.std.proofs.Common.{sym}
use borrow.Author.Tests.{eq-eqb, ne_eqb}
use mir.ValLaws.{to_z-of_z}
use Rattle.std.specs.Int.{w64}
use Rattle.sums.specs.Signed.{signed_ops}
use Rattle.cic_calls.proofs.Handed.{decimate-given, decimate_nothing, decimate-refused}
use Rattle.capi_cic64.proofs.decimator.mittenload_cic64_decimate.Goals as goal

pub returns-then-y-eq0 : goal.returns-then-y-eq0
returns-then-y-eq0 c = decimate-given (signed_ops w64) _ c.numbers_with-s.result c.decimate.new.self c.decimate.new.integrators c.decimate.new.combs
    c.numbers_with-s.ensures _ c.decimate.result (rw (to_z-of_z w64 c.args.x c.ranges.x) at c.decimate.ensures) _ _ _ _ c.in-Ok-Some.y _ (rw c.in-Ok-Some.field-0-is at c.in-Ok-Some.is)
    c.given_out.ensures (sym (rw (eq-eqb _ _ c.if-y-eq0.true)))

pub returns-else-y-eq0 : goal.returns-else-y-eq0
returns-else-y-eq0 c = decimate-given (signed_ops w64) _ c.numbers_with-s.result c.decimate.new.self c.decimate.new.integrators c.decimate.new.combs
    c.numbers_with-s.ensures _ c.decimate.result (rw (to_z-of_z w64 c.args.x c.ranges.x) at c.decimate.ensures) _ _ _ _ c.in-Ok-Some.y _ (rw c.in-Ok-Some.field-0-is at c.in-Ok-Some.is)
    c.given_out.ensures (sym (rw (ne_eqb _ _ c.if-y-eq0.false)))

pub returns-in-Ok-None : goal.returns-in-Ok-None
returns-in-Ok-None c = decimate_nothing (signed_ops w64) _ c.numbers_with-s.result c.decimate.new.self c.decimate.new.integrators c.decimate.new.combs
    c.numbers_with-s.ensures _ c.decimate.result (rw (to_z-of_z w64 c.args.x c.ranges.x) at c.decimate.ensures) (rw c.in-Ok-None.field-0-is at c.in-Ok-None.is)

pub returns-in-Err : goal.returns-in-Err
returns-in-Err c = decimate-refused (signed_ops w64) _ c.numbers_with-s.result c.decimate.new.self c.decimate.new.integrators c.decimate.new.combs
    c.numbers_with-s.ensures _ c.decimate.result (rw (to_z-of_z w64 c.args.x c.ranges.x) at c.decimate.ensures) _ _ c.in-Err.is c.number.ensures
