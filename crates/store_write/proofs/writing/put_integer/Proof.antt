-- A tab and at most eleven bytes.
use borrow.Author.Rules.{rules}
use mathlib.Core.Path.{ap}
use mir.Syntax.{w32}
use mir.ValLaws.{to_z-of_z}
use Rattle.text.specs.Numbers.{signed_of}
use Rattle.text.proofs.Putting.{puts_same}
use Rattle.store_write.proofs.Putting.{one_field, integer_most}
use Rattle.store_write.proofs.writing.put_integer.Statement.{statement}
use Rattle.store_write.proofs.writing.put_integer.Tie as tie

returns : tie.Need-returns
returns c =
    let begin : tie.Start = search in
    let at-put-byte : tie.After-put_byte-next = search in
    let at-put-signed : tie.After-put_signed = search in
    let a = begin.args in
    one_field a.out.now a.at (signed_of a.v) 12 _ _ _ _ begin.requires
    (integer_most a.v c.ranges.v)
    at-put-byte.put_byte-next.ensures
    (puts_same (ap signed_of
    (to_z-of_z w32 a.v c.ranges.v))
    at-put-signed.put_signed.ensures)

pub put_integer_spec : {M : Type 1} → statement M
put_integer_spec =
    tie.close (tie.spec (λ c κs. search rules) (λ c κs. search rules) (λ c. search rules) returns)
