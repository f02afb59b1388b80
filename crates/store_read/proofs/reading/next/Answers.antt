-- A line that holds a record is judged.
use Rattle.std.proofs.lemmas.Result.{err_from_is_err_and}
use Rattle.store_read.proofs.Turns.{entry_refused, entry_taken}
use Rattle.store_read.proofs.reading.next.Goals as goal

pub returns-in_err-check : goal.returns-in_err-check
returns-in_err-check c =
    let p = err_from_is_err_and c.from_residual.result c.from_residual.ensures.1 in
    rw (p.1, p.2) (entry_refused _ _ _ _ c.in-Some.entry c.in-Some.ensures _ c.in_err-check.ensures)

pub returns : goal.returns
returns c = entry_taken _ _ _ _ c.in-Some.entry c.in-Some.ensures c.in_ok-check.ensures
