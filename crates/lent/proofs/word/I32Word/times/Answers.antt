use Rattle.std.proofs.Common.{◌∙◌, w32, sym}
use Rattle.words.proofs.Std.{mul_bits, wrap_pos}
use Rattle.sums.proofs.Levels.{times-product}
use Rattle.lent.proofs.word.I32Word.times.Goals as goal

pub returns : goal.returns
returns c =
    let a = c.args in let n = c.cast_signed in
    mul_bits w32 a.self n.result c.ranges.self (record { sfits = n.type_inv })
    ∙ times-product w32 a.n a.self n.result (n.ensures ∙ sym (wrap_pos w32 a.n c.ranges.n))
