-- What was read is written whole and is the text itself (copies), so that writing is never refused.
use Rattle.settings.proofs.Answering.{gave_same, bad_copied, copies, never}
use Rattle.settings.proofs.answers.put_copied.Goals as goal

pub returns-in-Ok-write_store : goal.returns-in-Ok-write_store
returns-in-Ok-write_store c =
    rw (← c.form_of-version.ensures)
    (copies _ c.args.text.now c.in-Ok.settings c.in-Ok.ensures c.args.out.now c.requires.1 _ c.in-Ok-write_store.n c.in-Ok-write_store.ensures)

pub returns-in-Err-write_store : goal.returns-in-Err-write_store
returns-in-Err-write_store c =
    absurd (never _ c.args.text.now c.in-Ok.settings c.in-Ok.ensures c.args.out.now c.requires.1 _ c.in-Err-write_store.refusal
    c.in-Err-write_store.ensures)

pub returns-in-Err : goal.returns-in-Err
returns-in-Err c =
    rw (← c.form_of-version.ensures) (gave_same (bad_copied _ c.args.text.now c.in-Err.bad c.in-Err.ensures) c.put_bad-in-Err.ensures)
