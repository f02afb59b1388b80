-- One store, where there is room.
use Rattle.std.proofs.Common.{refl, arith}
use Rattle.text.proofs.Putting.{puts, puts_none, put_one}
use Rattle.text.proofs.writing.put_byte.Goals as goal

pub returns-then-out-at : goal.returns-then-out-at
returns-then-out-at c = puts_none _ _ _ (omega (arith, c.if-out-at.true))

pub returns : goal.returns
returns c =
    let a = c.args in
    puts _ _ _ _ _ (omega (arith, c.if-out-at.false)) (record { next = refl; text = put_one a.out.now a.at a.b (omega (arith, c.if-out-at.false)) })
