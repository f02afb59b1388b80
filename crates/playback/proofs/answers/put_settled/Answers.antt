-- Each part is put behind the one before.
use mir.Syntax.{w64}
use mir.ValLaws.{to_z-of_z}
use Rattle.playback.proofs.Answering.{zero-wrote}
use Rattle.playback.proofs.answers.put_settled.Goals as goal

pub returns : goal.returns
returns c =
    let a = c.args in
    zero-wrote a.out.now a.at a.value _ _ _ _ _ _ c.ranges.value c.requires
    c.put_bytes-a.ensures (rw (to_z-of_z w64 a.value c.ranges.value) at c.put_signed64-b.ensures)
    c.put_bytes.ensures
