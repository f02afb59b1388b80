use Rattle.std.proofs.Common.{rules, ◌+◌, ◌-◌, ◌<◌, length, refl, ap, ◌∙◌, arith}
use Rattle.std.proofs.lemmas.List.{get_or_default}
use Rattle.sums.proofs.Fills.{filling_start, filling_read}
use Rattle.sums.proofs.Stretches.{ran_length}
use Rattle.sums.proofs.Rings.{turned_none}
use Rattle.sums.proofs.Lent.{ringed, InterpolateSample}
use Rattle.sums.proofs.LentSteps.{fit}
use Rattle.sums.proofs.LentStretches.{feeds}
use Rattle.sums.proofs.LentRuns.{interpolate_turn, interpolate-ends}
use Rattle.shape.proofs.Places.{follows}
use Rattle.lent.specs.Inner.Apart.{apart}
use Rattle.lent.proofs.interpolating.interpolate_stretches.Invariants.{at_hold}
use Rattle.lent.proofs.interpolating.interpolate_stretches.Goals as goal

pub loop-countdown-init : goal.loop-countdown-init
loop-countdown-init g c =
    let a = c.args in let s = apart a.first a.integrators.now a.combs.now in let f = fit s c.requires.1 in
    let none = turned_none a.first.delay f.good.short a.first.order a.combs.now in (
      rw none (filling_start g.W.Word.ops a.input.now a.out.now s f c.requires.2),
      record {
        order = c.requires.0;
        few = omega (arith, c.requires.0, f.good.few);
        short = f.good.short;
        inside = f.good.some;
        long = f.long64;
      },
      f.long8,
      omega (arith, f.good.near),
    )

-- the sample that a turn reads is there
pub bounds-input-k : goal.bounds-input-k
bounds-input-k g c =
    let a = c.args in let l = c.loop-countdown in
    filling_read g.W.Word.ops a.input.now a.out.now (apart a.first a.integrators.now a.combs.now) l.out
    (ringed (at_hold a.first l.countdown l.hold) l.integrators l.combs l.at) l.k l.i l.invariant.0
    (omega (arith, c.loop-countdown-test.true, l.invariant.0.same))

pub overflow_add-k : goal.overflow_add-k
overflow_add-k g c =
    let a = c.args in let l = c.loop-countdown in
    let there = filling_read g.W.Word.ops a.input.now a.out.now (apart a.first a.integrators.now a.combs.now) l.out
    (ringed (at_hold a.first l.countdown l.hold) l.integrators l.combs l.at) l.k l.i l.invariant.0
    (omega (arith, c.loop-countdown-test.true, l.invariant.0.same)) in
    search (rules, there)

pub loop-countdown-smaller : goal.loop-countdown-smaller
loop-countdown-smaller g c =
    let a = c.args in let l = c.loop-countdown in
    let there = filling_read g.W.Word.ops a.input.now a.out.now (apart a.first a.integrators.now a.combs.now) l.out
    (ringed (at_hold a.first l.countdown l.hold) l.integrators l.combs l.at) l.k l.i l.invariant.0
    (omega (arith, c.loop-countdown-test.true, l.invariant.0.same)) in
    omega (arith, there)

pub loop-countdown-preserved : goal.loop-countdown-preserved
loop-countdown-preserved g c =
    let a = c.args in let l = c.loop-countdown in let o = g.W.Word.ops in let ring = l.invariant.1 in
    let s = apart a.first a.integrators.now a.combs.now in let n = at_hold a.first l.countdown l.hold in
    let e = c.integrate_outputs in let d = c.difference_ring-hold in let x = c.index-input-k in
    let more : l.countdown < length a.out.now - l.i = omega (arith, c.loop-countdown-test.true, l.invariant.0.same) in
    let there = filling_read o a.input.now a.out.now s l.out (ringed n l.integrators l.combs l.at) l.k l.i l.invariant.0 more in
    let fed : InterpolateSample o a.n l.at n l.combs x.result (at_hold a.first (a.first.rate + 1) d.result) d.new.cells c.following-at.result =
    feeds o a.n l.at n l.combs ring x.result d.result c.following-at.result d.new.cells d.ensures
    (rw c.following-at.ensures (follows l.at a.first.delay ring.inside)) in (
      interpolate_turn o a.n a.input.now a.out.now l.out s n l.integrators l.combs l.at l.k l.i l.invariant.0 ring more
          e.new.cells e.new.out e.ensures x.result (x.is ∙ get_or_default a.input.now l.k x.result o.nil there) _ d.new.cells
          c.following-at.result fed,
      fed.ring,
      ap length e.ensures.cells ∙ ran_length o a.n _ l.integrators (omega (arith, ring.few, l.invariant.2)) ∙ l.invariant.2,
      omega (arith, (fit s c.requires.1).good.slow),
    )

pub returns : goal.returns
returns g c =
    let a = c.args in let l = c.loop-countdown in let e = c.integrate_outputs-2 in
    interpolate-ends g.W.Word.ops a.n a.input.now a.out.now l.out (apart a.first a.integrators.now a.combs.now)
    (at_hold a.first l.countdown l.hold) l.integrators l.combs l.at l.k l.i l.invariant.0 l.invariant.1
    (omega (arith, c.loop-countdown-test.false, l.invariant.0.same)) _ e.new.cells e.new.out
    (record { numbers = refl; climb = e.ensures })
