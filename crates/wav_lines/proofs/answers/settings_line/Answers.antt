-- The fields are those that the definition looks for (third_cut).
use Rattle.std.proofs.Common.{refl}
use borrow.Author.Tests.{le-ltb}
use Rattle.wav_lines.specs.Answers.{next_from}
use Rattle.wav_lines.proofs.Reading.{field_of, third_cut}
use Rattle.wav_lines.proofs.answers.settings_line.Goals as goal

pub returns-in_err-most : goal.returns-in_err-most
returns-in_err-most c =
    let f = c.args.fields.now in
    let a = rw c.cut.ensures.first at c.in_ok-rate.ensures in
    let b = rw (c.cut-2.ensures.first, c.cut.ensures.rest, field_of f (next_from f 0)) at c.in_ok-shift.ensures in
    let d = rw (c.cut-3.ensures.first, c.cut-2.ensures.rest, third_cut f c.cut.result.1.now c.cut.ensures.rest) at c.in_err-most.ensures in
    rw (c.from_residual-in_err-most.ensures, ← a, ← b, ← d) refl

pub returns : goal.returns
returns c =
    let f = c.args.fields.now in
    let a = rw c.cut.ensures.first at c.in_ok-rate.ensures in
    let b = rw (c.cut-2.ensures.first, c.cut.ensures.rest, field_of f (next_from f 0)) at c.in_ok-shift.ensures in
    let d = rw (c.cut-3.ensures.first, c.cut-2.ensures.rest, third_cut f c.cut.result.1.now c.cut.ensures.rest) at c.in_ok-most.ensures in
    rw (← a, ← b, ← d, le-ltb _ _ c.if-rate-gt4294967295.false, le-ltb _ _ c.if-shift-gt63.false) refl
