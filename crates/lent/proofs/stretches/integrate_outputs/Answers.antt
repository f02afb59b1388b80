use Rattle.std.proofs.Common.{◌+◌, ◌-◌, length, refl, sym, ap, ◌∙◌, arith}
use Rattle.std.specs.Prelude.{replicate}
use Rattle.sums.proofs.Loops.{ints_length}
use Rattle.sums.proofs.Stretches.{ran, climb_cells, climb_wrote, climb_cells_end, climb_wrote_end}
use Rattle.lent.proofs.stretches.integrate_outputs.Goals as goal

pub loop-i-init : goal.loop-i-init
loop-i-init g c = (c.told-cells, refl, refl)

pub loop-i-preserved : goal.loop-i-preserved
loop-i-preserved g c =
    let a = c.args in let l = c.loop-i in let o = g.W.Word.ops in let r = c.integrate in
    let h = c.loop-i-test.true in (
      ap length r.ensures.cells ∙ ints_length o a.n l.held a.x (omega (arith, c.requires.0, l.invariant.0)) ∙ l.invariant.0,
      l.invariant.1 ∙ climb_cells o a.n l.i a.to a.x l.held l.out h
          ∙ ap (ran o a.n (replicate (a.to - (l.i + 1)) a.x)) (sym r.ensures.cells),
      rw (r.ensures.last, r.ensures.cells) (l.invariant.2 ∙ climb_wrote o a.n l.i a.to a.x l.held l.out h
          (omega (arith, c.requires.2, l.auto.out))),
    )

pub returns : goal.returns
returns g c =
    let a = c.args in let l = c.loop-i in let o = g.W.Word.ops in let low = l.auto.i-end c.requires.1 in
    record {
      cells = sym (l.invariant.1 ∙ climb_cells_end o a.n l.i a.to a.x l.held l.out low c.loop-i-test.false);
      wrote = sym (l.invariant.2 ∙ climb_wrote_end o a.n l.i a.to a.x l.held l.out low c.loop-i-test.false);
    }
