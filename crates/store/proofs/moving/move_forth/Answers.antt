-- What can't be read is refused as it is; what can is recast and written.
use Rattle.std.proofs.Math.Option.{some}
use Rattle.std.proofs.lemmas.Result.{err_from_is_err_and}
use Rattle.settings_text.specs.Moves.{raised}
use Rattle.settings_text.specs.declared.version.Version.TheVariants.{One, Two}
use Rattle.settings_text.proofs.Moves.{forth-keeps}
use Rattle.store.proofs.Recasts.{move-refused, move-written, held, each_raised, forth-placed}
use Rattle.store.proofs.moving.move_forth.Goals as goal

pub returns-in_err-settings : goal.returns-in_err-settings
returns-in_err-settings c =
    let p = err_from_is_err_and c.from_residual.result c.from_residual.ensures.1 in
    rw (p.1, p.2) (move-refused One Two (λ s. some (raised s)) forth-keeps each_raised c.args.text.now c.args.out.now _ c.in_err-settings.ensures)

pub returns : goal.returns
returns c =
    let h = held One Two (λ s. some (raised s)) forth-keeps each_raised c.args.text.now c.args.out.now c.in_ok-settings.settings
    c.in_ok-settings.ensures in
    rw c.unblamed.ensures
    (move-written One Two (λ s. some (raised s)) forth-keeps each_raised c.args.text.now c.args.out.now c.in_ok-settings.settings h
    (forth-placed h.ss) c.recast_all.result c.recast_all.ensures _ _ c.write_form2.ensures)
