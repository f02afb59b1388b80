use Rattle.std.proofs.Common.{◌≡◌, ◌<◌, ◌≤◌, ◌-◌, ◌*◌, length, refl, sym, ◌∙◌, arith}
use Rattle.sums.proofs.Rings.{rolled, rolled_length, rolled_row, sweep_turn, sweep_length, sweep_end}
use Rattle.lent.proofs.stretches.unroll.Goals as goal

pub loop-j-init : goal.loop-j-init
loop-j-init g c = let z : c.args.n - 0 ≡ c.args.n = omega arith in (c.told-cells, rw z)

pub loop-j-preserved : goal.loop-j-preserved
loop-j-preserved g c =
    let a = c.args in let l = c.loop-j in
    let below : l.j < a.n = c.loop-j-test.true in
    let long : a.n * 8 ≤ length l.cells = omega (arith, c.requires.0, l.invariant.0) in
    let keeps = rolled_length a.m a.at a.n l.j l.cells c.requires.2 below long in
    let row = c.unroll_line.ensures ∙ rolled_row a.m a.at a.n l.j l.cells c.requires.2 below long in (
      sweep_length (λ (u : Unit {0}) r. rolled a.m a.at r) (λ u r. u) a.n l.j tt tt l.cells c.unroll_line.new.cells
          below long keeps row refl ∙ l.invariant.0,
      l.invariant.1 ∙ sweep_turn (λ (u : Unit {0}) r. rolled a.m a.at r) (λ u r. u) a.n l.j tt tt l.cells
          c.unroll_line.new.cells below long keeps row refl,
    )

pub returns : goal.returns
returns g c =
    let a = c.args in let l = c.loop-j in
    sym (l.invariant.1 ∙ sweep_end (λ (u : Unit {0}) r. rolled a.m a.at r) (λ u r. u) a.n l.j tt l.cells l.auto.j-end
    c.loop-j-test.false)
