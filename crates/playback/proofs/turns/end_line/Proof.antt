-- By the byte that ends the line.
use mathlib.Core.Path.{sym, ◌∙◌}
use borrow.Author.Tests.{eq-eqb, ne_eqb}
use borrow.Author.Rules.{rules}
use Rattle.text.specs.Letters.{newline}
use Rattle.playback.proofs.turns.end_line.Statement.{statement}
use Rattle.playback.proofs.turns.end_line.Tie as tie

returns : tie.Need-returns-then-b-eq10
returns c =
    let a = c.before.before.before.args in
    c.take_line.ensures ∙ sym (rw (eq-eqb a.b newline c.before.if-b-eq10.true))

returns-2 : tie.Need-returns
returns-2 c =
    let a = c.before.before.args in
    sym (rw (ne_eqb a.b newline c.if-b-eq10.false))

pub end_line_spec : {M : Type 1} → statement M
end_line_spec = tie.close (tie.spec (λ c κs. search rules) returns returns-2)
