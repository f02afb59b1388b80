-- Each part is put behind the one before; a count of 0 with its tab and newline in one.
use native.Mathlib.Omega.{arith}
use mir.Syntax.{w64}
use mir.ValLaws.{to_z-of_z}
use Rattle.playback.proofs.Answering.{settled_wrote, output-wrote, field_place}
use Rattle.playback.proofs.answers.put_output.Goals as goal

pub returns-then-told-eq0 : goal.returns-then-told-eq0
returns-then-told-eq0 c =
    let a = c.args in
    settled_wrote a.out.now a.at a.value a.told _ _ _ _ _ _ c.ranges.value c.if-told-eq0.true c.requires
    c.put_bytes-a.ensures (rw (to_z-of_z w64 a.value c.ranges.value) at c.put_signed64-b.ensures)
    c.put_bytes.ensures

pub put_last-requires : goal.put_last-requires
put_last-requires c =
    let a = c.args in
    let place = field_place a.out.now a.at a.value _ _ _ _ c.ranges.value (omega (arith, c.requires))
    c.put_bytes-a.ensures (rw (to_z-of_z w64 a.value c.ranges.value) at c.put_signed64-b.ensures) in
    omega (arith, place, c.requires, c.put_signed64-b.auto.out, c.put_bytes-a.auto.out)

pub returns : goal.returns
returns c =
    let a = c.args in
    output-wrote a.out.now a.at a.value a.told _ _ _ _ _ _ c.ranges.value c.requires
    c.put_bytes-a.ensures (rw (to_z-of_z w64 a.value c.ranges.value) at c.put_signed64-b.ensures)
    c.put_last.ensures
