-- Refused, or what was read.
use Rattle.capi_settings.proofs.Handed.{counts, counts_not}
use Rattle.capi_settings.proofs.calls.mittenload_settings_count.Goals as goal

pub returns-in-Ok : goal.returns-in-Ok
returns-in-Ok c = counts _ _ _ c.version_at.ensures c.in-Ok.settings c.in-Ok.ensures _

pub returns-in-Err : goal.returns-in-Err
returns-in-Err c = rw c.number.ensures (counts_not _ _ _ c.version_at.ensures c.in-Err.bad c.in-Err.ensures _)
