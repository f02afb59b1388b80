use Rattle.std.proofs.Common.{◌≡◌, ◌+◌, length, get_or, refl, sym, ap, ◌∙◌, arith}
use Rattle.std.proofs.lemmas.List.{get_or_default}
use Rattle.std.proofs.Math.Seq.{slice}
use Rattle.sums.proofs.Loops.{part_ints, ints_length}
use Rattle.sums.proofs.Stretches.{ran, ran_turn, ran_end}
use Rattle.lent.proofs.stretches.integrate_inputs.Goals as goal

pub loop-i-init : goal.loop-i-init
loop-i-init g c = (c.told-cells, refl)

pub loop-i-preserved : goal.loop-i-preserved
loop-i-preserved g c =
    let a = c.args in let l = c.loop-i in let o = g.W.Word.ops in let r = c.integrate in
    let x = get_or a.input.now l.i o.nil in
    let i = c.index-input-i in let read = i.is ∙ get_or_default a.input.now l.i i.result o.nil (omega (arith, c.requires.2)) in
    let e : r.new.cells ≡ part_ints o a.n l.held x = rw read at r.ensures.cells in (
      ap length e ∙ ints_length o a.n l.held x (omega (arith, c.requires.0, l.invariant.0)) ∙ l.invariant.0,
      l.invariant.1 ∙ ran_turn o a.n l.i a.to a.input.now l.held c.loop-i-test.true c.requires.2
          ∙ ap (ran o a.n (slice (l.i + 1) a.to a.input.now)) (sym e),
    )

pub returns : goal.returns
returns g c =
    let a = c.args in let l = c.loop-i in
    sym (l.invariant.1 ∙ ran_end g.W.Word.ops a.n l.i a.to a.input.now l.held (l.auto.i-end c.requires.1) c.loop-i-test.false)
