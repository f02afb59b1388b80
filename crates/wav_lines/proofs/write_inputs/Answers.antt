-- The lines stand in front (wrote_front).
use Rattle.blocks.specs.Refusals.{answer}
use Rattle.wav_lines.proofs.Putting.{lines_none, wrote_front}
use Rattle.wav_lines.proofs.write_inputs.Goals as goal

pub returns : goal.returns
unfolding answer
returns c =
    let a = c.args in
    let h = lines_none a.samples.now a.out.now c.if-out-samples.false in
    let w = wrote_front _ _ _ _ c.put_inputs.ensures in
    (rw (h, w.0), rw h w.1)
