-- What refuses order and delay comes first.
use Rattle.std.proofs.lemmas.Result.{err_from_is_err_and}
use Rattle.entries.proofs.Numbering.{refused_first}
use Rattle.entries.proofs.numbers.check_cic.Goals as goal

pub returns-in_err-check_new-in-Two : goal.returns-in_err-check_new-in-Two
returns-in_err-check_new-in-Two c =
    let p = err_from_is_err_and c.from_residual.result c.from_residual.ensures.1 in
    rw (p.1, p.2, c.in-Two.is) (refused_first _ _ _ c.in_err-check_new-in-Two.ensures)
