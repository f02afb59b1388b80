-- Each part is put behind the one before, and no number has more than 20 digits.
use Rattle.std.proofs.Common.{arith, ap}
use Rattle.settings.specs.Answers.{bad_answer}
use Rattle.settings.proofs.Answering.{bad_wrote, gave_same}
use Rattle.settings.proofs.answers.put_bad.Goals as goal

pub returns : goal.returns
returns c =
    let a = c.args in
    gave_same (ap (bad_answer a.bad.line) c.number-number.ensures)
    (bad_wrote a.out.now c.requires a.bad.line c.number-number.result _ _ _ _ _ _ _ _ _ _ (omega arith)
    c.put_bytes-a.ensures c.put_decimal-b.ensures c.put_byte-c.ensures
    c.put_decimal-d.ensures c.put_byte.ensures)
