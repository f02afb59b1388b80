-- The tests of the definition, in turn.
use mathlib.Core.Path.{sym, ap₂, ◌∙◌}
use borrow.Author.Tests.{eq-eqb, ne_eqb}
use Rattle.desk.specs.Lines.{bits_record, record_of}
use borrow.Author.Rules.{rules}
use Rattle.desk.proofs.lines.read_record.Statement.{statement}
use Rattle.desk.proofs.lines.read_record.Tie as tie

returns : tie.Need-returns-then-line-ne18
unfolding record_of
returns c = sym (rw (ne_eqb _ _ c.if-line-ne18.true))

returns-2 : tie.Need-returns-then-line-ne10
unfolding record_of
returns-2 c =
    let e1 : tie.Else-line-ne18 = search in
    sym (rw (eq-eqb _ _ e1.if-line-ne18.false, ne_eqb _ _ c.if-line-ne10.true))

returns-3 : tie.Need-returns
unfolding record_of
returns-3 c =
    let h : tie.After-hex_word-p = search in
    let k : tie.After-kind_of-kind = search in
    let e2 : tie.Else-line-ne10 = search in
    let e1 : tie.Else-line-ne18 = search in
    c.bits_record.ensures ∙ ap₂ bits_record k.kind_of-kind.ensures h.hex_word-p.ensures
    ∙ sym (rw (eq-eqb _ _ e1.if-line-ne18.false, eq-eqb _ _ e2.if-line-ne10.false))

pub read_record_spec : {M : Type 1} → statement M
read_record_spec = tie.close (tie.spec returns (λ c. search rules) returns-2 (λ c. search rules) (λ c κs. search rules) (λ c. search rules) (λ c. search rules) (λ c. search rules) (λ c κs. search rules) (λ c κs. search rules) returns-3)
