-- What is within i16 is read alike as 32 bits and as 16.
use Rattle.std.proofs.Common.{ap, ◌∙◌}
use Rattle.std.specs.Int.{to_le_bytes}
use mir.Syntax.{w16, w32}
use Rattle.words.proofs.Reading.{read, bits-word}
use Rattle.wav.proofs.Parts.{fits16}
use Rattle.wav.proofs.samples.pair.Goals as goal

pub overflow_cast-x : goal.overflow_cast-x
overflow_cast-x c = rw (read w32 c.args.x c.ranges.x.sfits) (fits16 c.args.x c.requires)

pub returns : goal.returns
returns c =
    let x = c.args.x in
    let f = fits16 x c.requires in
    (rw (read w32 x c.ranges.x.sfits, read w16 x f.sfits) at c.to_le_bytes.ensures) ∙ ap (to_le_bytes w16) (bits-word w16 x f)
