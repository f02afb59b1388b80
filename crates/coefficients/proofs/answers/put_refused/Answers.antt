-- Each part is put behind the one before, and no number has more than 20 digits.
use native.Mathlib.Omega.{arith}
use Rattle.coefficients.proofs.Answering.{refused-wrote}
use Rattle.coefficients.proofs.answers.put_refused.Goals as goal

pub returns : goal.returns
returns c =
    let a = c.args in
    refused-wrote a.out.now a.at a.line a.number _ _ _ _ _ _ _ _ _ _ (omega arith) c.requires
    c.put_bytes-a.ensures c.put_decimal-b.ensures c.put_byte-c.ensures
    c.put_decimal-d.ensures c.put_byte.ensures
