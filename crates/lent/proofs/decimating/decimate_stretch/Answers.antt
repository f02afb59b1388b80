-- A stretch is a jump to the next output: LentStretches puts the calls' promises together.
use Rattle.std.proofs.Common.{◌+◌, ◌∙◌}
use Rattle.std.proofs.lemmas.List.{get_or_default}
use Rattle.sums.proofs.LentStretches.{reaches}
use Rattle.shape.proofs.Places.{follows}
use Rattle.lent.specs.Inner.Apart.{figures_of}
use Rattle.lent.proofs.decimating.decimate_stretch.Goals as goal

pub returns : goal.returns
returns g c =
    let a = c.args in let o = g.W.Word.ops in let x = c.index-input-end in let d = c.difference_ring-hold in
    reaches o a.n a.at (figures_of a.first) a.integrators.now a.combs.now c.requires.0 c.requires.1 a.input.now a.i c.requires.2
    c.integrate_inputs.new.cells d.new.cells x.result c.last.result d.result c.saturating_sub.result c.following.result
    c.integrate_inputs.ensures (x.is ∙ get_or_default a.input.now (a.i + a.first.countdown) x.result o.nil c.requires.2) c.last.ensures
    d.ensures c.saturating_sub.ensures (rw c.following.ensures (follows a.at a.first.delay c.requires.0.inside))
