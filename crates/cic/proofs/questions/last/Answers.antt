use Rattle.std.proofs.Common.{◌-◌, arith}
use Rattle.std.proofs.lemmas.List.{get_or_default}
use Rattle.cic.proofs.questions.last.Goals as goal

pub returns : goal.returns
returns g c =
    let a = c.args in
    get_or_default a.integrators.now (a.n - 1) c.index-integrators-n.result g.W.Word.ops.nil (omega (arith, c.requires, c.told-integrators))
