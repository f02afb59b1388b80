-- The one field's number, of the word or not.
use mathlib.Core.Path.{sym, ap, ◌∙◌}
use lib.ListN.{drop}
use mir.Syntax.{w64}
use mir.ValLaws.{to_z-of_z}
use borrow.Author.Tests.{eq-eqb, ne_eqb}
use borrow.Author.Rules.{rules}
use Rattle.text.specs.Letters.{tab}
use Rattle.text.specs.Parts.{behind}
use Rattle.records.specs.Lines.{field_at}
use Rattle.records.specs.Inner.Fields.{sample_of}
use Rattle.records.proofs.Parsing.{integer_is}
use Rattle.records.proofs.parse.sample_record.Statement.{statement}
use Rattle.records.proofs.parse.sample_record.Tie as tie

returns : tie.Need-returns-then-n-ne0
returns c =
    let then1 : tie.Then-n-ne0 = search in
    let at-integer : tie.After-integer_of-n = search in
    let at_field : tie.After-field-a = search in
    let begin : tie.Start = search in
    let a = begin.args in
    let e = integer_is a.wide at_field.field-a.result.value at-integer.integer_of-n.result
    (field_at (behind tab (drop a.e a.line.now)) 0) at_field.field-a.ensures.value at-integer.integer_of-n.ensures in
    c.bad_field.ensures ∙ sym (ap sample_of (sym e) ∙ rw (ne_eqb _ _ then1.if-n-ne0.true))

returns-2 : tie.Need-returns
returns-2 c =
    let else1 : tie.Else-n-ne0 = search in
    let at-integer : tie.After-integer_of-n = search in
    let at_field : tie.After-field-a = search in
    let begin : tie.Start = search in
    let a = begin.args in
    let e = integer_is a.wide at_field.field-a.result.value at-integer.integer_of-n.result
    (field_at (behind tab (drop a.e a.line.now)) 0) at_field.field-a.ensures.value at-integer.integer_of-n.ensures in
    let x = at-integer.integer_of-n.result.value in
    rw (to_z-of_z w64 x (record { sfits = c.struct_told-1.given.1.0.1 })) (sym (ap sample_of (sym e) ∙ rw (eq-eqb _ _ else1.if-n-ne0.false)))

pub sample_record_spec : {M : Type 1} → statement M
sample_record_spec =
    tie.close (tie.spec (λ c κs. search rules) (λ c κs. search rules) (λ c κs. search rules) returns returns-2)
