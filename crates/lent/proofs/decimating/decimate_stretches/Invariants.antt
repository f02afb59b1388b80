-- What is left to run, `Held` of sums Blocks, on the state that the rings stand for; a turn is the jump of a stretch.
use Rattle.std.proofs.Common.{◌-◌, length}
use Rattle.sums.proofs.Blocks.{Held}
use Rattle.sums.proofs.Lent.{Ring}
use Rattle.lent.specs.Inner.Apart.{figures_of, apart, ringed}
use Rattle.lent.proofs.decimating.decimate_stretches.Given as goal

abbrev pub invariant-loop-numbers : goal.invariant-loop-numbers
invariant-loop-numbers g l =
    Held g.W.Word.ops l.input l.fn.out l.out (apart l.fn.first l.fn.integrators l.fn.combs) (ringed l.numbers l.integrators l.combs l.at) l.k l.i
    × Ring l.n l.at (figures_of l.numbers) l.combs

abbrev pub decreases-loop-numbers : goal.decreases-loop-numbers
decreases-loop-numbers g l = length l.input - l.i
