-- One line more with each turn (lines_on).
use Rattle.std.proofs.Common.{arith, pos, get_or}
use mir.Syntax.{w32}
use Rattle.words.proofs.Reading.{read}
use Rattle.text.proofs.Putting.{nothing}
use Rattle.wav_lines.proofs.Putting.{lines_on, lines_done}
use Rattle.wav_lines.proofs.put_inputs.Goals as goal

pub loop-x-init : goal.loop-x-init
loop-x-init c = (omega arith, nothing c.args.out.now 0)

pub loop-x-preserved : goal.loop-x-preserved
loop-x-preserved c =
    let xs = c.args.samples.now in
    let i = c.loop-x.x-index in
    let w = rw (read w32 (get_or xs i (pos 0)) (omega arith)) at c.put_input-at.ensures in
    (omega (arith, w.1), lines_on _ _ _ xs i _ _ c.loop-x-test.true c.loop-x.invariant.1 w.0)

pub returns : goal.returns
returns c = lines_done _ _ c.args.samples.now c.loop-x.x-index _ c.loop-x-test.false c.loop-x.invariant.1
