-- What was found tells the answer.
use Rattle.settings.proofs.Answering.{gave_same, bad_checked, ok_checked}
use Rattle.settings.proofs.answers.put_checked.Goals as goal

pub returns-in-Ok : goal.returns-in-Ok
returns-in-Ok c =
    rw (← c.form_of-version.ensures) (gave_same (ok_checked _ c.args.text.now c.in-Ok.settings c.in-Ok.ensures) c.put_ok.ensures)

pub returns-in-Err : goal.returns-in-Err
returns-in-Err c =
    rw (← c.form_of-version.ensures) (gave_same (bad_checked _ c.args.text.now c.in-Err.bad c.in-Err.ensures) c.put_bad.ensures)
