-- What the move does.
use Rattle.capi_settings.proofs.Handed.{sends, forth_not}
use Rattle.capi_settings.proofs.calls.mittenload_settings_forth.Goals as goal

pub returns-in-Ok : goal.returns-in-Ok
returns-in-Ok c = sends _ _ _ _ c.in-Ok.n c.in-Ok.ensures

pub returns-in-Err : goal.returns-in-Err
returns-in-Err c = rw c.number.ensures (forth_not _ _ _ _ c.in-Err.bad c.in-Err.ensures)
