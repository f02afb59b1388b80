use Rattle.std.proofs.Common.{◌∙◌, w64, sym}
use Rattle.words.proofs.Reading.{wrap_is}
use Rattle.words.proofs.Std.{mul_bits}
use Rattle.sums.proofs.Levels.{times-product}
use Rattle.lent.proofs.word.I64Word.times.Goals as goal

pub returns : goal.returns
returns c =
    let a = c.args in let n = c.from in
    mul_bits w64 a.self n.result c.ranges.self (record { sfits = n.type_inv })
    ∙ times-product w64 a.n a.self n.result (sym (wrap_is w64 n.result (record { sfits = n.type_inv })) ∙ (rw n.ensures))
