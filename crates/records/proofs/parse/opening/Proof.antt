-- The first of the three that is bad, from left to right.
use mathlib.Core.Path.{sym, ◌∙◌}
use borrow.Author.Tests.{eq-eqb, ne_eqb}
use borrow.Author.Rules.{rules}
use Rattle.records.proofs.parse.opening.Statement.{statement}
use Rattle.records.proofs.parse.opening.Tie as tie

returns : tie.Need-returns-then-a-ne0
returns c =
    let then1 : tie.Then-a-ne0 = search in
    c.bad_field.ensures ∙ sym (rw (ne_eqb _ _ then1.if-a-ne0.true))

returns-2 : tie.Need-returns-then-b-ne0
returns-2 c =
    let else1 : tie.Else-a-ne0 = search in
    let then2 : tie.Then-b-ne0 = search in
    c.bad_field-then-b-ne0.ensures ∙ sym (rw (eq-eqb _ _ else1.if-a-ne0.false, ne_eqb _ _ then2.if-b-ne0.true))

returns-3 : tie.Need-returns-then-c-ne0
returns-3 c =
    let else1 : tie.Else-a-ne0 = search in
    let else2 : tie.Else-b-ne0 = search in
    let then3 : tie.Then-c-ne0 = search in
    c.bad_field-then-c-ne0.ensures
    ∙ sym (rw (eq-eqb _ _ else1.if-a-ne0.false, eq-eqb _ _ else2.if-b-ne0.false, ne_eqb _ _ then3.if-c-ne0.true))

returns-4 : tie.Need-returns
returns-4 c =
    let else1 : tie.Else-a-ne0 = search in
    let else2 : tie.Else-b-ne0 = search in
    let else3 : tie.Else-c-ne0 = search in
    sym (rw (eq-eqb _ _ else1.if-a-ne0.false, eq-eqb _ _ else2.if-b-ne0.false, eq-eqb _ _ else3.if-c-ne0.false))

pub opening_spec : {M : Type 1} → statement M
opening_spec =
    tie.close (tie.spec (λ c κs. search rules) returns (λ c κs. search rules) returns-2 (λ c κs. search rules) returns-3 returns-4)
