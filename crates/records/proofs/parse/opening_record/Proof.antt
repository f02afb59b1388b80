-- Three fields, each behind the tab that ends the one before it.
use mathlib.Core.Path.{ap, ◌∙◌}
use native.Mathlib.Omega.{arith}
use lib.ListN.{drop}
use borrow.Author.Rules.{rules}
use Rattle.text.specs.Letters.{tab}
use Rattle.text.specs.Numbers.{capped}
use Rattle.text.specs.Parts.{behind}
use Rattle.records.specs.Lines.{field_at}
use Rattle.records.proofs.Parsing.{fewer, opening_is, natural_is, second, third}
use Rattle.records.proofs.parse.opening_record.Statement.{statement}
use Rattle.records.proofs.parse.opening_record.Tie as tie

field-requires-2 : tie.Need-field-b-requires
field-requires-2 c κs =
    let l = c.before.before.args.line.now in
    omega (
      arith,
      fewer l c.before.before.args.e c.field-a.result.value c.field-a.result.end c.field-a.ensures,
      c.before.before.requires,
    )

field-requires-3 : tie.Need-field-c-requires
field-requires-3 c κs =
    let l = c.before.before.before.args.line.now in
    let x = c.before.field-a in
    omega (
      arith,
      fewer l c.before.before.before.args.e x.result.value x.result.end x.ensures,
      fewer l x.result.end c.field-b.result.value c.field-b.result.end c.field-b.ensures,
      c.before.before.before.requires,
    )

returns : tie.Need-returns
returns c =
    let at-field3 : tie.After-field-c = search in
    let at-field2 : tie.After-field-b = search in
    let at_field : tie.After-field-a = search in
    let begin : tie.Start = search in
    let a = begin.args in
    let fs = behind tab (drop a.e a.line.now) in
    let x = at_field.field-a in
    let y = at-field2.field-b in
    let z = at-field3.field-c in
    c.opening.ensures ∙ opening_is a.wide fs _ _ _
    (natural_is _ _ (field_at fs 0) x.ensures.value c.before.before.before.natural_of.ensures)
    (natural_is _ _ (field_at fs 1) (y.ensures.value ∙ ap capped (second fs _ x.ensures.rest))
    c.before.before.natural_of-2.ensures)
    (natural_is _ _ (field_at fs 2) (z.ensures.value ∙ ap capped (third fs _ _ x.ensures.rest y.ensures.rest))
    c.before.natural_of-3.ensures)

pub opening_record_spec : {M : Type 1} → statement M
opening_record_spec =
    tie.close (tie.spec (λ c κs. search rules) field-requires-2 field-requires-3 (λ c κs. search rules)
    (λ c κs. search rules) (λ c κs. search rules) (λ c κs. search rules) returns)
