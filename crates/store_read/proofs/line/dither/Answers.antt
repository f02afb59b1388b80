-- F and eight numbers.
use Rattle.std.proofs.Common.{refl}
use Rattle.settings_text.specs.Lines.{dither_in}
use Rattle.store_read.proofs.Ends.{dither_wrong, dither_none, dither_other, dither_all}
use Rattle.store_read.proofs.line.dither.Goals as goal

pub returns-in_err-fields : goal.returns-in_err-fields
unfolding dither_in
returns-in_err-fields c = λ name. rw (c.from_residual.ensures, c.in_err-fields.was) refl

pub returns-in_err-f : goal.returns-in_err-f
returns-in_err-f c = λ name.
    rw (c.from_residual-in_err-f.ensures, c.in_ok-fields.was, c.cut.ensures) (dither_wrong name _ _ c.in_err-f.ensures)

pub returns-in_err-cs : goal.returns-in_err-cs
returns-in_err-cs c = λ name.
    rw (c.from_residual-in_err-cs.ensures, c.in_ok-fields.was, c.cut.ensures) (dither_none name _ _ c.in_err-cs.ensures)

pub returns-then-cs-ne8 : goal.returns-then-cs-ne8
returns-then-cs-ne8 c = λ name.
    rw (c.in_ok-fields.was, c.cut.ensures) (dither_other name _ _ c.in_ok-cs.cs c.in_ok-cs.ensures c.if-cs-ne8.true)

pub returns : goal.returns
returns c = λ name.
    rw (c.in_ok-fields.was, c.cut.ensures)
    (dither_all name _ _ c.in_ok-cs.cs c.in_ok-cs.ensures c.in_ok-f.f c.in_ok-f.ensures c.if-cs-ne8.false)
