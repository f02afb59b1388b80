-- From the last nibble to the first.
use Rattle.std.proofs.Common.{◌<◌, ◌-◌, length, sym, ap, arith}
use Rattle.store_read.specs.Reading.{arch_by}
use Rattle.store_read.proofs.Counting.{hex_wrong, other_length, sofar_down, sofar_none}
use Rattle.store_read.proofs.line.hexes.Goals as goal

pub returns-then-field-k : goal.returns-then-field-k
returns-then-field-k c = sym (ap arch_by (other_length c.args.k c.args.field.now c.if-field-k.true))

pub loop-i-init : goal.loop-i-init
loop-i-init c = sofar_none c.args.field.now c.args.k c.if-field-k.false

pub returns-then-d-gt15 : goal.returns-then-d-gt15
returns-then-d-gt15 c =
    let h = c.if-field-k.false in
    let i : c.loop-i.i - 1 < length c.args.field.now = omega arith in
    rw (← h) (hex_wrong c.args.field.now (c.loop-i.i - 1) c.nibble_of-d.result i c.nibble_of-d.ensures c.if-d-gt15.true)

pub loop-i-preserved : goal.loop-i-preserved
loop-i-preserved c =
    let h = c.if-field-k.false in
    sofar_down c.args.field.now c.loop-i.m c.loop-i.i c.nibble_of-d.result (omega arith) (omega arith) c.loop-i.invariant c.nibble_of-d.ensures
    (omega arith)
