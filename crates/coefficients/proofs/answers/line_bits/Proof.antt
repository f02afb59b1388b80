-- The name ends where the first tab is; without one no digits follow (Answering).
use mathlib.Core.Path.{sym, ◌∙◌}
use native.Mathlib.Omega.{arith}
use lib.Seq.{length-take-le}
use borrow.Author.Rules.{rules}
use Rattle.text.specs.Letters.{tab}
use Rattle.text.proofs.Parting.{end_high}
use Rattle.coefficients.proofs.Answering.{line-long, line_untabbed, line_tabbed}
use Rattle.coefficients.proofs.answers.line_bits.Statement.{statement}
use Rattle.coefficients.proofs.answers.line_bits.Tie as tie

returns : tie.Need-returns-then-line-gt64
returns c = let begin : tie.Start = search in line-long begin.args.line.now c.if-line-gt64.true

returns-2 : tie.Need-returns-then-line-e
returns-2 c =
    let begin : tie.Start = search in
    let at-part-end : tie.After-part_end-e = search in
    let short : tie.Else-line-gt64 = search in
    let at_named : tie.After-named_by-named = search in
    let untabbed : tie.Then-line-e = search in
    let p = at-part-end.part_end-e in
    c.pole_bits.ensures ∙ line_untabbed begin.args.line.now p.result short.if-line-gt64.false p.ensures
    at_named.named_by-named.result untabbed.if-line-e.true at_named.named_by-named.ensures

slice-aggregate-named-by : tie.Need-slice_bounds-named_by-end
slice-aggregate-named-by c =
    let begin : tie.Start = search in
    let at-part-end : tie.After-part_end-e = search in
    let l = begin.args.line.now in let p = at-part-end.part_end-e in
    sym (length-take-le p.result l (rw p.ensures (end_high tab l 0 (omega arith))))

returns-3 : tie.Need-returns
returns-3 c =
    let begin : tie.Start = search in
    let at-part-end : tie.After-part_end-e = search in
    let short : tie.Else-line-gt64 = search in
    let tabbed : tie.Else-line-e = search in
    let at_named : tie.After-named_by-named = search in
    let at-digits : tie.After-hex_word-digits = search in
    let p = at-part-end.part_end-e in
    c.pole_bits-2.ensures ∙ line_tabbed begin.args.line.now p.result short.if-line-gt64.false p.ensures at_named.named_by-named.result
    at-digits.hex_word-digits.result tabbed.if-line-e.false at_named.named_by-named.ensures at-digits.hex_word-digits.ensures

pub line_bits_spec : {M : Type 1} → statement M
line_bits_spec =
    tie.close (tie.spec returns (λ c κs. search rules) slice-aggregate-named-by (λ c κs. search rules) (λ c κs. search rules)
    returns-2 (λ c. search rules) (λ c. search rules) (λ c. search rules) (λ c. search rules) (λ c κs. search rules)
    (λ c κs. search rules) returns-3)
