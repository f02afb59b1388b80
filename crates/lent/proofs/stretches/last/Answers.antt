-- The last of the first n cells, by cases on n.
use Rattle.std.proofs.Common.{◌-◌, ◌∙◌, arith}
use Rattle.std.proofs.lemmas.List.{get_or_default}
use Rattle.sums.proofs.Stretches.{last_of, last_at}
use Rattle.lent.proofs.stretches.last.Goals as goal

pub returns-then-n-eq0 : goal.returns-then-n-eq0
unfolding last_of
returns-then-n-eq0 g c = rw c.if-n-eq0.true

pub returns : goal.returns
returns g c =
    let a = c.args in let o = g.W.Word.ops in
    get_or_default a.cells.now (a.n - 1) c.index-cells-n.result o.nil (omega (arith, c.requires, c.told-cells))
    ∙ last_at o a.n a.x a.cells.now (omega arith)
