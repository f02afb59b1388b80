-- Each part is put behind the one before; a line has at most 20 digits, a number 10, a place 3.
use native.Mathlib.Omega.{arith}
use Rattle.playback.proofs.Answering.{number-wrote, number-place, bad_wrote, bad_place, place-most}
use Rattle.playback.proofs.answers.put_bad.Goals as goal

pub put_last-requires : goal.put_last-requires
put_last-requires c =
    let a = c.args in
    let b = bad_place a.out.now a.at a.line _ _ _ _ c.requires c.put_bytes-a.ensures c.put_decimal-b.ensures in
    let d = number-place _ _ a.number _ _ _ _ (omega arith)
    (omega (arith, b, c.requires, c.put_decimal-b.auto.out, c.put_bytes-a.auto.out)) c.put_byte-c.ensures
    c.put_decimal-d.ensures in
    omega (
      arith,
      b,
      d,
      c.requires,
      place-most a.place (omega arith),
      c.put_decimal-d.auto.out,
      c.put_byte-c.auto.out,
      c.put_decimal-b.auto.out,
      c.put_bytes-a.auto.out,
    )

pub returns : goal.returns
returns c =
    let a = c.args in
    let b = bad_place a.out.now a.at a.line _ _ _ _ c.requires c.put_bytes-a.ensures c.put_decimal-b.ensures in
    let w = number-wrote _ _ a.number a.place _ _ _ _ _ _ (omega arith) (omega arith)
    (omega (arith, b, c.requires, c.put_decimal-b.auto.out, c.put_bytes-a.auto.out)) c.put_byte-c.ensures
    c.put_decimal-d.ensures c.put_last.ensures in
    bad_wrote a.out.now a.at a.line a.number a.place _ _ _ _ _ _ (omega arith) (omega arith) c.requires
    c.put_bytes-a.ensures c.put_decimal-b.ensures w
