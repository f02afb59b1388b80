-- A number from zero on is its digits; one below zero is a minus and the digits of its size.
use Rattle.std.proofs.Common.{arith, ◌∷◌}
use Rattle.text.specs.Numbers.{decimal_of}
use Rattle.text.proofs.Putting.{puts, puts_none, puts_same, not_fits, does_fit, written, then_puts}
use Rattle.text.proofs.Spelling.{spelt-short, from_zero, below-zero}
use Rattle.text.proofs.writing.put_signed64.Goals as goal

pub returns-then-v-ge0 : goal.returns-then-v-ge0
returns-then-v-ge0 c =
    puts_same (from_zero c.args.v c.ranges.v c.unsigned_abs-size.result c.unsigned_abs-size.ensures.value c.if-v-ge0.true)
    c.put_decimal.ensures

pub overflow_add-width : goal.overflow_add-width
overflow_add-width c = record { fits = omega (arith, c.width.ensures, spelt-short 20 c.unsigned_abs-size.result) }

pub returns-then-not-has_room : goal.returns-then-not-has_room
returns-then-not-has_room c =
    let a = c.args in
    let size = c.unsigned_abs-size in
    let h = not_fits _ _ _ _ c.has_room.ensures c.if-not-has_room.true in
    puts_same (below-zero a.v c.ranges.v size.result size.ensures.value c.if-v-ge0.false)
    (puts_none a.out.now a.at (45 ∷ decimal_of size.result) (omega (arith, h, c.width.ensures)))

pub returns : goal.returns
returns c =
    let a = c.args in
    let size = c.unsigned_abs-size in
    let h = does_fit _ _ _ _ c.has_room.ensures c.if-not-has_room.false in
    let w = c.width.ensures in
    puts_same (below-zero a.v c.ranges.v size.result size.ensures.value c.if-v-ge0.false)
    (puts a.out.now a.at (45 ∷ decimal_of size.result) _ _ (omega (arith, h, w))
    (then_puts (omega (arith, h, w)) (written _ _ _ _ _ (omega (arith, h, w)) c.put_byte-next.ensures) c.put_decimal-2.ensures))
