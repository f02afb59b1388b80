use Rattle.std.proofs.Common.{◌≡◌, refl, ap, ◌∙◌, arith}
use Rattle.sums.proofs.Rings.{rolled_at, roll_start, roll_turn}
use Rattle.lent.proofs.stretches.unroll_line.Goals as goal

pub loop-turn-init : goal.loop-turn-init
loop-turn-init g c = roll_start c.args.base c.args.m c.args.cells.now (omega (arith, c.requires.2, c.told-cells))

pub loop-turn-preserved : goal.loop-turn-preserved
loop-turn-preserved g c =
    let a = c.args in let l = c.loop-turn in
    c.comb.ensures.cells ∙ roll_turn a.base a.m a.cells.now (omega (arith, c.requires.2, c.told-cells)) l._turn l.cells l.invariant
    (omega (arith, c.requires.1)) c.index-cells-base.result _ refl

pub returns : goal.returns
returns g c =
    let a = c.args in let l = c.loop-turn in
    let e : l._turn ≡ a.at = omega arith in
    l.invariant ∙ ap (λ k. rolled_at a.base a.m k a.cells.now) e
