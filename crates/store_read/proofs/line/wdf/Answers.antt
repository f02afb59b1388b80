-- The coefficients count the sections, and the number and the nibbles must agree.
use Rattle.std.proofs.Common.{refl, sym}
use Rattle.settings_text.specs.Lines.{wdf_in}
use Rattle.store_read.proofs.Ends.{count_other, count_same, wdf_none, wdf_uncounted, wdf_other, wdf_undrawn, wdf_all}
use Rattle.store_read.proofs.line.wdf.Goals as goal

pub returns-in_err-fields : goal.returns-in_err-fields
unfolding wdf_in
returns-in_err-fields c = λ name. rw (c.from_residual.ensures, c.in_err-fields.was) refl

pub returns-in_err-behind : goal.returns-in_err-behind
unfolding wdf_in
returns-in_err-behind c = λ name.
    rw (c.from_residual-in_err-behind.ensures, c.in_ok-fields.was, c.cut.ensures, c.in_err-behind.was) refl

pub returns-in_err-cs : goal.returns-in_err-cs
returns-in_err-cs c = λ name.
    rw (c.from_residual-in_err-cs.ensures, c.in_ok-fields.was, c.cut.ensures, c.in_ok-behind.was, c.cut-2.ensures)
    (wdf_none name _ _ _ c.in_err-cs.ensures)

pub returns-in_err-n : goal.returns-in_err-n
returns-in_err-n c = λ name.
    rw (c.from_residual-in_err-n.ensures, c.in_ok-fields.was, c.cut.ensures, c.in_ok-behind.was, c.cut-2.ensures)
    (wdf_uncounted name _ _ _ c.in_err-n.ensures)

pub returns-then-n-cs : goal.returns-then-n-cs
returns-then-n-cs c = λ name.
    rw (c.in_ok-fields.was, c.cut.ensures, c.in_ok-behind.was, c.cut-2.ensures)
    (wdf_other name _ _ _ c.in_ok-cs.cs c.in_ok-cs.ensures (count_other _ _ c.in_ok-n.n (sym c.in_ok-n.ensures) c.if-n-cs.true))

pub returns-in_err-m : goal.returns-in_err-m
returns-in_err-m c = λ name.
    rw (c.from_residual-in_err-m.ensures, c.in_ok-fields.was, c.cut.ensures, c.in_ok-behind.was, c.cut-2.ensures)
    (wdf_undrawn name _ _ _ c.in_ok-cs.cs c.in_ok-cs.ensures c.in_err-m.ensures)

pub returns : goal.returns
returns c = λ name.
    rw (c.in_ok-fields.was, c.cut.ensures, c.in_ok-behind.was, c.cut-2.ensures)
    (wdf_all name _ _ _ c.in_ok-cs.cs c.in_ok-cs.ensures c.in_ok-m.m
    (count_same _ _ c.in_ok-n.n (sym c.in_ok-n.ensures) c.if-n-cs.false) c.in_ok-m.ensures)
