-- By how the line ends: not at all, or by the byte that was found (Turning).
use lib.ListN.{length-take, length}
use mathlib.Core.Path.{◌≡◌, refl, sym}
use native.Mathlib.Omega.{arith}
use Rattle.playback.proofs.Turning.{turn_stopped, turn_over, turn_ends}
use Rattle.playback.proofs.turns.take_bytes.Goals as goal

pub returns-then-not-going : goal.returns-then-not-going
returns-then-not-going c =
    let a = c.args in (
      turn_stopped a.r a.input.now a.out.now a.from a.at c.if-not-going.true
          c.requires.0 c.requires.1 c.requires.2,
      λ h. h,
    )

pub returns-then-input-i : goal.returns-then-input-i
returns-then-input-i c =
    let a = c.args in
    let f = c.collect-f in
    let g = c.if-not-going.false in (
      turn_over a.r a.input.now a.out.now a.from a.at g c.requires.2 f.new.line f.result.len
          f.result.at f.ensures c.if-input-i.true
          (record {
            session = a.r.session;
            lines = a.r.lines;
            outputs = a.r.outputs;
            line = f.new.line;
            len = f.result.len;
            going = a.r.going;
          })
          refl f.ensures.small,
      λ h. omega (arith, f.ensures.high),
    )

pub slice_bounds-line-end : goal.slice_bounds-line-end
slice_bounds-line-end c = let f = c.collect-f in omega (arith, f.ensures.size, length-take f.result.len f.new.line)

pub slice_bounds-end_line-end : goal.slice_bounds-end_line-end
slice_bounds-end_line-end c = sym c.collect-f.ensures.size

pub answer_line-a-requires : goal.answer_line-a-requires
answer_line-a-requires c =
    let a = c.args in
    omega (arith, c.requires.2.fits c.if-not-going.false)

pub overflow_add-result : goal.overflow_add-result
overflow_add-result c =
    omega (arith, c.if-input-i.false, c.collect-f.ensures)

pub returns : goal.returns
returns c =
    let a = c.args in
    let f = c.collect-f in
    let w = c.answer_line-a in
    let g = c.if-not-going.false in
    let m : length w.new.out ≡ length a.out.now = w.auto.out in (
      turn_ends a.r a.input.now a.out.now a.from a.at g c.requires.2 f.new.line f.result.len
          f.result.at f.ensures c.if-input-i.false c.end_line-t.result c.end_line-t.ensures
          w.result.replay w.result.written w.new.out m w.ensures,
      λ h. omega (arith, f.ensures.low),
    )
