-- By the record, and whether the filter is there.
use Rattle.std.proofs.Common.{◌∙◌, w64, rules}
use mir.ValLaws.{to_z-of_z}
use Rattle.records.specs.Sessions.{take_of}
use Rattle.records.proofs.Taking.{takes, is_true, is_false}
use Rattle.records.proofs.session.take_record.Goals as goal

pub returns-then-opened : goal.returns-then-opened
unfolding take_of
returns-then-opened c = takes c.args.s c.args.r _ c.refused.result c.in-Open.is (c.refused.ensures ∙ is_true _ _ _ c.if-opened.true)

pub returns-else-opened : goal.returns-else-opened
unfolding take_of
returns-else-opened c = takes c.args.s c.args.r _ c.make.result c.in-Open.is (c.make.ensures ∙ is_false _ _ _ c.if-opened.false)

pub returns-then-opened-2 : goal.returns-then-opened-2
unfolding take_of
returns-then-opened-2 c = takes c.args.s c.args.r _ c.change_rate.result c.in-Rate.is (c.change_rate.ensures ∙ is_true _ _ _ c.if-opened-2.true)

pub returns-else-opened-2 : goal.returns-else-opened-2
unfolding take_of
returns-else-opened-2 c = takes c.args.s c.args.r _ c.refused-else-opened-2.result c.in-Rate.is (c.refused-else-opened-2.ensures ∙ is_false _ _ _ c.if-opened-2.false)

-- the sample of the arm, read back from its bits
pub returns-then-opened-3 : goal.returns-then-opened-3
unfolding take_of
returns-then-opened-3 c =
    let e = to_z-of_z w64 c.in-Sample.x (search rules) in
    takes c.args.s c.args.r _ c.take_sample.result c.in-Sample.is ((rw e at c.take_sample.ensures) ∙ is_true _ _ _ c.if-opened-3.true)

pub returns-else-opened-3 : goal.returns-else-opened-3
unfolding take_of
returns-else-opened-3 c = takes c.args.s c.args.r _ c.refused-else-opened-3.result c.in-Sample.is (c.refused-else-opened-3.ensures ∙ is_false _ _ _ c.if-opened-3.false)

pub returns-then-opened-4 : goal.returns-then-opened-4
unfolding take_of
returns-then-opened-4 c = takes c.args.s c.args.r _ c.clear_filter.result c.in-Clear.is (c.clear_filter.ensures ∙ is_true _ _ _ c.if-opened-4.true)

pub returns-else-opened-4 : goal.returns-else-opened-4
unfolding take_of
returns-else-opened-4 c = takes c.args.s c.args.r _ c.refused-else-opened-4.result c.in-Clear.is (c.refused-else-opened-4.ensures ∙ is_false _ _ _ c.if-opened-4.false)

pub returns-in-Bad : goal.returns-in-Bad
unfolding take_of
returns-in-Bad c = takes c.args.s c.args.r _ c.refused_at.result c.in-Bad.is c.refused_at.ensures
