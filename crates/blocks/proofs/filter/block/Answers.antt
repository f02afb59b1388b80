use Rattle.std.proofs.Common.{refl}
use Rattle.blocks.proofs.Turns.{fed-ran}
use Rattle.blocks.proofs.Ways.{unlike, taken}
use Rattle.blocks.proofs.filter.block.Goals as goal

pub returns-then-xs-ys : goal.returns-then-xs-ys
returns-then-xs-ys g c =
    let a = c.args in unlike 0 g.F.Filter.gives g.F.Filter.after a.filter.now a.xs.now a.ys.now c.if-xs-ys.true

pub returns : goal.returns
returns g c =
    let a = c.args in
    let ran = fed-ran g.F.Filter.gives g.F.Filter.after a.filter.now a.xs.now a.ys.now c.run.new.filter c.run.new.ys c.if-xs-ys.false c.run.ensures in
    taken 0 g.F.Filter.gives g.F.Filter.after a.filter.now a.xs.now a.ys.now c.run.new.filter c.run.new.ys c.if-xs-ys.false refl
    ran.0 ran.1
