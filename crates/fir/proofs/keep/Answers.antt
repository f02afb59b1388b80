use Rattle.fir.specs.Inner.{kept}
use Rattle.fir.proofs.Standing.{kept-length, keeps_end}
use Rattle.fir.proofs.keep.Goals as goal

pub returns : goal.returns
returns c =
    let a = c.args in
    keeps_end (kept a.cells.now a.input.now) c.loop-n.last c.loop-n.n c.loop-n-test.false (kept-length a.cells.now a.input.now c.told-cells) c.loop-n.invariant
