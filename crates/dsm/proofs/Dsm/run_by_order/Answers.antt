use Rattle.std.proofs.Common.{◌≤◌, arith}
use Rattle.dsm.proofs.Refusals.{none-order}
use Rattle.dsm.proofs.Dsm.run_by_order.Goals as goal

pub run-requires-in_default : goal.run-requires-in_default
run-requires-in_default c =
    let few : c.args.self.now.order ≤ 8 = none-order c.args.self.now c.requires.0 in
    (omega arith, c.requires.0, c.requires.1)
