-- A pair's sample is the next one (read_on).
use Rattle.std.proofs.Common.{arith, ◌<◌, ◌/◌, [], length, refl, ◌∙◌}
use mir.Syntax.{w32}
use Rattle.words.proofs.Reading.{read}
use Rattle.wav.proofs.Parts.{pair_at, read_on, read_done}
use Rattle.wav.proofs.samples.read_all.Goals as goal

pub loop-i-preserved : goal.loop-i-preserved
loop-i-preserved c =
    let bs = c.args.bytes.now in
    let i = c.loop-i.i in
    let s = c.sample in
    let inside : i < length bs / 2 = omega (arith, c.as_chunks.ensures.front_len) in
    let e = rw (c.as_chunks.ensures.front, pair_at bs (length bs / 2) i [] refl inside) at s.ensures in
    rw (read w32 s.result s.type_inv, c.loop-i.invariant) (read_on c.args.out.now bs i s.result c.requires inside e)

pub returns : goal.returns
returns c = c.loop-i.invariant ∙ read_done c.args.out.now c.args.bytes.now c.loop-i.i (omega (arith, c.as_chunks.ensures.front_len))
