use Rattle.std.proofs.Common.{◌≡◌, length, arith, rules}
use mir.Syntax.{w16}
use Rattle.words.proofs.Reading.{read}
use Rattle.dsm.proofs.Refusals.{none-order, none_lying}
use Rattle.dsm.proofs.Running.{turns}
use Rattle.dsm.proofs.Dsm.turn.Goals as goal

pub accumulate-carries-requires : goal.accumulate-carries-requires
accumulate-carries-requires c = let h = none-order c.args.self.now c.requires.1 in omega arith

pub combine-requires : goal.combine-requires
combine-requires c =
    let s = c.args.self.now in let h = none-order s c.requires.1 in
    (omega arith, c.accumulate-carries.ensures.small, rw c.requires.0 at (none_lying s c.requires.1))

pub returns : goal.returns
returns c =
    let s = c.args.self.now in let k = c.accumulate-carries in let h = none-order s c.requires.1 in
    let e : length s.accumulators ≡ 8 = search rules in
    rw (read w16 c.combine.result c.combine.type_inv)
    (turns s c.args.x k.new.a k.result c.combine.new.c c.combine.result (omega arith) c.requires.1 (rw c.requires.0 k.ensures) (rw c.requires.0 c.combine.ensures))
