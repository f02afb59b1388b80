-- What can't be read is refused as it is; what can is recast and written, where it holds no `dither`.
use Rattle.std.proofs.Common.{sym, ◌∙◌}
use Rattle.std.proofs.lemmas.Result.{err_from_is_err_and}
use Rattle.settings_text.specs.Moves.{lowered}
use Rattle.settings_text.specs.declared.version.Version.TheVariants.{One, Two}
use Rattle.settings_text.proofs.Moves.{back-keeps}
use Rattle.store.proofs.Recasts.{move-refused, move-written, held, each_lowered, back-placed, back_none, dither_read}
use Rattle.store.proofs.moving.move_back.Goals as goal

pub returns-in_err-settings : goal.returns-in_err-settings
returns-in_err-settings c =
    let p = err_from_is_err_and c.from_residual.result c.from_residual.ensures.1 in
    rw (p.1, p.2) (move-refused Two One lowered back-keeps each_lowered c.args.text.now c.args.out.now _ c.in_err-settings.ensures)

pub returns-then-has_dither : goal.returns-then-has_dither
returns-then-has_dither c =
    let s = c.in_ok-settings.settings in
    let h = held Two One lowered back-keeps each_lowered c.args.text.now c.args.out.now s c.in_ok-settings.ensures in
    back_none c.args.text.now h.ss c.args.out.now h.good
    (sym (dither_read s h.ss h.is) ∙ sym c.has_dither.ensures ∙ c.if-has_dither.true)

pub returns : goal.returns
returns c =
    let s = c.in_ok-settings.settings in
    let h = held Two One lowered back-keeps each_lowered c.args.text.now c.args.out.now s c.in_ok-settings.ensures in
    rw c.unblamed.ensures
    (move-written Two One lowered back-keeps each_lowered c.args.text.now c.args.out.now s h
    (back-placed h.ss (sym (dither_read s h.ss h.is) ∙ sym c.has_dither.ensures ∙ c.if-has_dither.false))
    c.recast_all.result c.recast_all.ensures _ _ c.write_form1.ensures)
