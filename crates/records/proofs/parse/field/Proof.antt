-- The field behind the tab at e ends at the next one; what follows is parted there.
use native.Mathlib.Omega.{arith}
use Prim.Native.Nat.{◌+◌}
use borrow.Author.Rules.{rules}
use Rattle.text.specs.Letters.{tab}
use Rattle.text.proofs.Parting.{end_high}
use Rattle.records.proofs.Parsing.{inside, reads}
use Rattle.records.proofs.parse.field.Statement.{statement}
use Rattle.records.proofs.parse.field.Tie as tie

add-from : tie.Need-overflow_add-from
add-from c = omega (arith, inside c.before.args.line.now c.before.args.e c.before.requires)

part-parsed-end : tie.Need-slice_bounds-parsed-end
part-parsed-end c =
    let a = c.before.before.args in
    let h = inside a.line.now a.e c.before.before.requires in
    rw c.part_end-end.ensures (end_high tab a.line.now (a.e + 1) (omega arith))

returns : tie.Need-returns
returns c =
    let begin : tie.Start = search in
    let a = begin.args in
    reads a.line.now a.e c.before.before.part_end-end.result _ begin.requires c.before.before.part_end-end.ensures
    c.parsed-value.ensures

pub field_spec : {M : Type 1} → statement M
field_spec =
    tie.close (tie.spec add-from (λ c κs. search rules) (λ c. search rules) (λ c. search rules) part-parsed-end
    (λ c κs. search rules) returns)
