-- Each part is put behind the one before, and no number has more than 20 digits.
use Rattle.settings.proofs.Answering.{ok_wrote}
use Rattle.settings.proofs.answers.put_ok.Goals as goal

pub returns : goal.returns
returns c =
    let a = c.args in
    ok_wrote a.out.now c.requires a.version a.count _ _ _ _ _ _
    c.put_form-a.ensures c.put_decimal-b.ensures c.put_byte.ensures
