-- Refused, or the record that was read.
use Rattle.capi_settings.proofs.Handed.{tells, tells_not}
use Rattle.capi_settings.proofs.calls.mittenload_settings_read.Goals as goal

pub returns-in-Err : goal.returns-in-Err
returns-in-Err c = rw c.number.ensures (tells_not _ _ _ c.version_at.ensures c.in-Err.bad c.in-Err.ensures _ _)

pub returns : goal.returns
returns c =
    tells _ _ _ c.version_at.ensures c.in-Ok.settings c.in-Ok.ensures _ _ _ c.record_at-entry.result c.record_at-entry.ensures
    c.entry_out.ensures
