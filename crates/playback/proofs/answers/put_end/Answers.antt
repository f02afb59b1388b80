-- Each part is put behind the one before, and no number has more than 20 digits.
use Rattle.playback.proofs.Answering.{end_wrote}
use Rattle.playback.proofs.answers.put_end.Goals as goal

pub returns : goal.returns
returns c =
    let a = c.args in
    end_wrote a.out.now a.at a.outputs _ _ _ _ _ _ c.requires c.put_bytes-a.ensures
    c.put_decimal-b.ensures c.put_byte.ensures
