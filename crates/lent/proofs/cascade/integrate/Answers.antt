use Rattle.std.proofs.Common.{arith}
use Rattle.sums.proofs.Loops.{ints_start, ints_turn, ints_end}
use Rattle.lent.proofs.cascade.integrate.Goals as goal

pub loop-i-init : goal.loop-i-init
loop-i-init g c = ints_start g.W.Word.ops c.args.cells.now c.args.x

pub loop-i-preserved : goal.loop-i-preserved
loop-i-preserved g c =
    let a = c.args in let l = c.loop-i in
    ints_turn g.W.Word.ops a.cells.now a.x l.i c.index-cells-i.result (omega (arith, c.told-cells)) l.cells l.acc c.add-acc.result
    l.invariant.0 l.invariant.1 c.add-acc.ensures

pub returns : goal.returns
returns g c =
    let a = c.args in let l = c.loop-i in
    let e = ints_end g.W.Word.ops a.cells.now a.x a.n l.i l.auto.i-end c.loop-i-test.false l.cells l.acc l.invariant.0 l.invariant.1 in
    record { cells = e.0; last = e.1 }
