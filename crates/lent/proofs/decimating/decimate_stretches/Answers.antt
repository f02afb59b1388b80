use Rattle.std.proofs.Common.{rules, arith}
use Rattle.sums.proofs.Blocks.{held_start}
use Rattle.sums.proofs.Rings.{turned_none}
use Rattle.sums.proofs.LentSteps.{fit, ready}
use Rattle.sums.proofs.LentRuns.{decimate-ends}
use Rattle.lent.specs.Inner.Apart.{figures_of, apart, ringed}
use Rattle.lent.proofs.decimating.decimate_stretches.Goals as goal

pub loop-numbers-init : goal.loop-numbers-init
loop-numbers-init g c =
    let a = c.args in let s = apart a.first a.integrators.now a.combs.now in let f = fit s c.requires.1 in
    let none = turned_none a.first.delay f.good.short a.first.order a.combs.now in (
      rw none (held_start g.W.Word.ops a.input.now a.out.now s f c.requires.2),
      record {
        order = c.requires.0;
        few = omega (arith, c.requires.0, f.good.few);
        short = f.good.short;
        inside = f.good.some;
        long = f.long64;
      },
    )

pub decimate_stretch-t-requires : goal.decimate_stretch-t-requires
decimate_stretch-t-requires g c =
    let l = c.loop-numbers in let held = l.invariant.0 in (
      search rules,
      (
        search rules,
        (
          l.invariant.1,
          ready (ringed l.numbers l.integrators l.combs l.at) held.fit,
          omega (arith, held.within, c.loop-numbers-test.true),
        ),
      ),
    )

pub returns : goal.returns
returns g c =
    let a = c.args in let l = c.loop-numbers in let s = apart a.first a.integrators.now a.combs.now in let r = c.decimate_rest-numbers in
    decimate-ends g.W.Word.ops a.n a.input.now a.out.now l.out s (fit s c.requires.1) (figures_of l.numbers)
    l.integrators l.combs l.at l.k l.i l.invariant.0 l.invariant.1 (omega (arith, c.loop-numbers-test.false)) (figures_of r.result)
    r.new.integrators r.ensures
