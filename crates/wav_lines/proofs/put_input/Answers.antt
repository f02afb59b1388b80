-- Three puts, one behind the other, where there is room for the longest line (line_wrote).
use mir.Syntax.{w32}
use mir.ValLaws.{to_z-of_z}
use Rattle.wav_lines.proofs.Putting.{line_wrote}
use Rattle.wav_lines.proofs.put_input.Goals as goal

pub returns : goal.returns
returns c =
    let x = c.args.x in
    let v = rw (to_z-of_z w32 x c.ranges.x) at c.put_signed-end.ensures in
    line_wrote c.args.out.now c.args.at x _ _ _ _ _ _ c.ranges.x c.requires c.put_bytes-value.ensures v
    c.put_byte.ensures
