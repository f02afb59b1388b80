-- The digits, then the line's end.
use mir.Syntax.{w32}
use mir.ValLaws.{to_z-of_z}
use borrow.Author.Rules.{rules}
use Rattle.coefficients.proofs.Answering.{bits-wrote}
use Rattle.coefficients.proofs.answers.put_bits.Statement.{statement}
use Rattle.coefficients.proofs.answers.put_bits.Tie as tie

returns : tie.Need-returns
returns c =
    let at-put-signed : tie.After-put_signed-a = search in
    let begin : tie.Start = search in
    let a = begin.args in
    bits-wrote a.out.now a.at a.bits _ _ _ _ begin.ranges.bits begin.requires
    (rw (to_z-of_z w32 a.bits begin.ranges.bits) at at-put-signed.put_signed-a.ensures) c.before.before.put_byte.ensures

pub put_bits_spec : {M : Type 1} → statement M
put_bits_spec = tie.close (tie.spec (λ c κs. search rules) (λ c κs. search rules) (λ c. search rules) returns)
