-- Refused, or what writing does.
use Rattle.capi_settings.proofs.Handed.{puts, puts_not, puts_bad}
use Rattle.capi_settings.proofs.calls.mittenload_settings_put.Goals as goal

pub returns-in-Err : goal.returns-in-Err
returns-in-Err c = rw c.number.ensures (puts_not _ _ _ c.version_at-version.ensures c.in-Err.bad c.in-Err.ensures _ _ _ _)

pub returns-in-Ok-write_store : goal.returns-in-Ok-write_store
returns-in-Ok-write_store c =
    puts _ _ _ c.version_at-version.ensures c.in-Ok.settings c.in-Ok.ensures _ _ c.entry_in-entry.result _ _ c.put_at-settings.result _
    c.entry_in-entry.ensures c.put_at-settings.ensures c.in-Ok-write_store.n c.in-Ok-write_store.ensures

pub returns-in-Err-write_store : goal.returns-in-Err-write_store
returns-in-Err-write_store c =
    rw c.number-in-Err-write_store.ensures
    (puts_bad _ _ _ c.version_at-version.ensures c.in-Ok.settings c.in-Ok.ensures _ _ c.entry_in-entry.result _ _ c.put_at-settings.result _
    c.entry_in-entry.ensures c.put_at-settings.ensures c.in-Err-write_store.refusal c.in-Err-write_store.ensures)
