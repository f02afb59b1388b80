-- A number within i64 stays; in 32 bits it is read through its low word.
use Rattle.std.proofs.Common.{◌∙◌, w64}
use mir.ValLaws.{to_z-of_z}
use Rattle.records.proofs.Taking.{read_wide}
use Rattle.records.proofs.session.read_in.Goals as goal

pub returns-then-wide : goal.returns-then-wide
returns-then-wide c = to_z-of_z w64 c.args.v c.ranges.v ∙ read_wide c.args.wide c.args.v c.if-wide.true c.ranges.v
