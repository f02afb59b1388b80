use Rattle.std.proofs.Common.{◌+◌, ◌%◌, ℕ, refl, ap, arith}
use Rattle.text.specs.Numbers.{decimal_of}
use Rattle.text.proofs.Putting.{puts, puts_none, not_fits, does_fit}
use Rattle.text.proofs.Spelling.{spelt-last, filling_start, filling_on, filling_done}
use Rattle.text.proofs.writing.put_decimal.Goals as goal

pub returns-then-not-has_room : goal.returns-then-not-has_room
returns-then-not-has_room c =
    let a = c.args in
    let h = not_fits _ _ _ _ c.has_room.ensures c.if-not-has_room.true in
    puts_none a.out.now a.at (decimal_of a.n) (omega (arith, h, c.width-w.ensures))

pub loop-i-init : goal.loop-i-init
loop-i-init c =
    let a = c.args in
    let h = does_fit _ _ _ _ c.has_room.ensures c.if-not-has_room.false in
    rw c.width-w.ensures (filling_start a.out.now (decimal_of a.n) a.at a.n (omega (arith, h, c.width-w.ensures)) (spelt-last 20 a.n))

pub loop-i-preserved : goal.loop-i-preserved
loop-i-preserved c =
    let a = c.args in let l = c.loop-i in
    let h = does_fit _ _ _ _ c.has_room.ensures c.if-not-has_room.false in
    filling_on a.out.now (decimal_of a.n) a.at l.out l.left l.i (48 + l.left % 10) (omega (arith, h, c.width-w.ensures)) c.loop-i-test.true
    l.invariant refl

pub returns : goal.returns
returns c =
    let a = c.args in let l = c.loop-i in
    let h = does_fit _ _ _ _ c.has_room.ensures c.if-not-has_room.false in
    puts a.out.now a.at (decimal_of a.n) _ _ (omega (arith, h, c.width-w.ensures))
    (record {
      next = ap (λ (k : ℕ). a.at + k) c.width-w.ensures;
      text = filling_done a.out.now (decimal_of a.n) a.at l.out l.left l.i c.loop-i-test.false l.invariant;
    })
