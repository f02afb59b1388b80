use Rattle.std.proofs.Common.{◌*◌, ◌∙◌, arith}
use Rattle.sums.proofs.Loops.{combs-start, combs_turn, combs_end}
use Rattle.sums.proofs.Lines.{less_at}
use Rattle.lent.proofs.cascade.difference.Goals as goal

pub loop-j-init : goal.loop-j-init
loop-j-init g c = combs-start g.W.Word.ops c.args.m c.args.cells.now c.args.x

pub loop-j-preserved : goal.loop-j-preserved
loop-j-preserved g c =
    let a = c.args in let l = c.loop-j in let o = g.W.Word.ops in let r = c.comb-acc in
    combs_turn o a.m c.requires.2 c.requires.1 l.j a.cells.now a.x (omega (arith, c.told-cells, c.requires.0)) l.cells r.new.cells l.acc r.result
    l.invariant.0 l.invariant.1 r.ensures.cells (r.ensures.last ∙ less_at o (l.j * 8) a.m l.cells l.acc c.requires.1)

pub returns : goal.returns
returns g c =
    let a = c.args in let l = c.loop-j in
    let e = combs_end g.W.Word.ops a.m a.cells.now a.x a.n l.j l.auto.j-end c.loop-j-test.false l.cells l.acc l.invariant.0 l.invariant.1 in
    record { cells = e.0; last = e.1 }
