-- Each sample's two bytes are put behind those before (write_on).
use Rattle.std.proofs.Common.{arith, List, ℕ, pos, ◌*◌, get_or, ap, ◌∙◌}
use mir.Syntax.{w16, w32}
use Rattle.text.specs.Writing.{overlaid}
use Rattle.text.proofs.Putting.{put-nil}
use Rattle.words.specs.Words.{word}
use Rattle.words.proofs.Reading.{read}
use Rattle.wav.specs.Bytes.{little}
use Rattle.wav.proofs.Parts.{fits_at, fits16, put_two, write_on, write_done}
use Rattle.wav.proofs.samples.write_all.Goals as goal

pub loop-i-init : goal.loop-i-init
loop-i-init c = put-nil c.args.out.now 0

pub pair-requires : goal.pair-requires
pair-requires c =
    let x = get_or c.args.samples.now c.loop-i.i (pos 0) in
    let f = fits_at c.args.samples.now c.loop-i.i c.loop-i-test.true c.requires.inside in
    rw (read w32 x (omega (arith, (fits16 x f).sfits))) f

pub loop-i-preserved : goal.loop-i-preserved
loop-i-preserved c =
    let xs = c.args.samples.now in
    let o = c.args.out.now in
    let i = c.loop-i.i in
    let x = get_or xs i (pos 0) in
    let f = fits16 x (fits_at xs i c.loop-i-test.true c.requires.inside) in
    let p = rw (read w32 x (omega (arith, f.sfits))) at c.pair.ensures in
    rw p (put_two c.loop-i.out (2 * i) (word w16 x) (omega arith)
    ∙ ap (λ (l : List ℕ). overlaid l (2 * i) (little 2 (word w16 x))) c.loop-i.invariant ∙ write_on o xs i c.loop-i-test.true)

pub returns : goal.returns
returns c = c.loop-i.invariant ∙ write_done c.args.out.now c.args.samples.now c.loop-i.i c.loop-i-test.false
