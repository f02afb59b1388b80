-- A tab and at most ten digits.
use borrow.Author.Rules.{rules}
use native.Mathlib.Omega.{arith}
use Rattle.text.specs.Numbers.{decimal_of}
use Rattle.store_write.proofs.Putting.{one_field, natural-most}
use Rattle.store_write.proofs.writing.put_natural.Statement.{statement}
use Rattle.store_write.proofs.writing.put_natural.Tie as tie

returns : tie.Need-returns
returns c =
    let begin : tie.Start = search in
    let at-put-byte : tie.After-put_byte-next = search in
    let at-put-decimal : tie.After-put_decimal = search in
    let a = begin.args in
    one_field a.out.now a.at (decimal_of a.n) 11 _ _ _ _ begin.requires (natural-most a.n (omega arith))
    at-put-byte.put_byte-next.ensures at-put-decimal.put_decimal.ensures

pub put_natural_spec : {M : Type 1} → statement M
put_natural_spec =
    tie.close (tie.spec (λ c κs. search rules) (λ c κs. search rules) (λ c. search rules) returns)
