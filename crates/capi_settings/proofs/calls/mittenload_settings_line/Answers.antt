-- What reading tells.
use Rattle.capi_settings.proofs.Handed.{bad_line, no_line}
use Rattle.capi_settings.proofs.calls.mittenload_settings_line.Goals as goal

pub returns-in-Ok : goal.returns-in-Ok
returns-in-Ok c = no_line _ _ _ c.version_at.ensures c.in-Ok.field-0 c.in-Ok.ensures

pub returns-in-Err : goal.returns-in-Err
returns-in-Err c = bad_line _ _ _ c.version_at.ensures c.in-Err.bad c.in-Err.ensures
