use Rattle.std.proofs.Common.{◌≡◌, ◌+◌, ◌-◌, arith}
use native.Mathlib.Nat.{sub-zero}
use Rattle.wdf.proofs.Nibbles.{four_bits}
use Rattle.wdf.proofs.Retired.{moving_begins, moving_on, moving-small, moving-ends}
use Rattle.wdf.proofs.filter.moved_architecture.Goals as goal

pub loop-done-init : goal.loop-done-init
loop-done-init c = rw (sub-zero c.args.sections, four_bits c.args.sections) (moving_begins c.args.sections c.args.architecture)

pub overflow_mul-made-in-loop-done : goal.overflow_mul-made-in-loop-done
overflow_mul-made-in-loop-done c =
    let l = c.loop-done in let a = c.args in
    let k = moving-small a.sections a.architecture (a.sections - l.done) l.made l.invariant (omega (arith, c.loop-done-test.true)) in
    record { fits = omega (arith, c.ranges.architecture.fits) }

pub overflow_add-made : goal.overflow_add-made
overflow_add-made c =
    let l = c.loop-done in let a = c.args in
    let k = moving-small a.sections a.architecture (a.sections - l.done) l.made l.invariant (omega (arith, c.loop-done-test.true)) in
    rw (c.current_nibble.ensures, four_bits (a.sections - l.done - 1)) (record { fits = omega (arith, c.ranges.architecture.fits) })

pub loop-done-preserved : goal.loop-done-preserved
loop-done-preserved c =
    let l = c.loop-done in let a = c.args in
    let e : a.sections - (l.done + 1) ≡ a.sections - l.done - 1 = omega arith in
    rw (c.current_nibble.ensures, four_bits (a.sections - l.done - 1), e)
    (moving_on a.sections a.architecture (a.sections - l.done) l.made l.invariant (omega (arith, c.loop-done-test.true)))

pub returns : goal.returns
returns c =
    let l = c.loop-done in let a = c.args in
    moving-ends a.sections a.architecture (a.sections - l.done) l.made l.invariant (omega (arith, c.loop-done-test.false))
