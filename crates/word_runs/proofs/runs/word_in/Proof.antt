-- The tests of a word's line, in turn (Reading).
use mathlib.Core.Path.{sym, ◌∙◌}
use native.Mathlib.Omega.{arith}
use borrow.Author.Rules.{rules}
use Rattle.word_runs.proofs.Reading.{short-line, unended, no_word, other_last, other_head, next_word}
use Rattle.word_runs.proofs.runs.word_in.Statement.{statement}
use Rattle.word_runs.proofs.runs.word_in.Tie as tie

returns : tie.Need-returns-then-line-ne18
returns c = let b : tie.Start = search in sym (short-line b.args.number b.args.line.now c.if-line-ne18.true)

returns-2 : tie.Need-returns-then-line-ne10
returns-2 c =
    let b : tie.Start = search in
    let e1 : tie.Else-line-ne18 = search in
    sym (unended b.args.number b.args.line.now e1.if-line-ne18.false c.if-line-ne10.true)

returns-3 : tie.Need-returns-then-line-ne119
returns-3 c =
    let b : tie.Start = search in
    let e1 : tie.Else-line-ne18 = search in
    let e2 : tie.Else-line-ne10 = search in
    sym (no_word b.args.number b.args.line.now e1.if-line-ne18.false e2.if-line-ne10.false c.if-line-ne119.true)

returns-4 : tie.Need-returns-then-line-last_letter
returns-4 c =
    let b : tie.Start = search in
    let e1 : tie.Else-line-ne18 = search in
    let e2 : tie.Else-line-ne10 = search in
    let e3 : tie.Else-line-ne119 = search in
    let l : tie.After-last_letter = search in
    sym (other_last b.args.number b.args.line.now e1.if-line-ne18.false e2.if-line-ne10.false e3.if-line-ne119.false
    (λ e. c.if-line-last_letter.true (e ∙ sym l.last_letter.ensures)))

returns-5 : tie.Need-returns-then-not-same_bytes
returns-5 c =
    let b : tie.Start = search in
    let e1 : tie.Else-line-ne18 = search in
    let e2 : tie.Else-line-ne10 = search in
    let e3 : tie.Else-line-ne119 = search in
    let s : tie.After-same_bytes = search in
    sym (other_head b.args.number b.args.line.now e1.if-line-ne18.false e2.if-line-ne10.false e3.if-line-ne119.false b.args.head.now b.requires
    (sym s.same_bytes.ensures ∙ c.if-not-same_bytes.true))

returns-6 : tie.Need-returns
returns-6 c =
    let b : tie.Start = search in
    let e1 : tie.Else-line-ne18 = search in
    let e2 : tie.Else-line-ne10 = search in
    let e3 : tie.Else-line-ne119 = search in
    let e4 : tie.Else-line-last_letter = search in
    let e5 : tie.Else-not-same_bytes = search in
    let l : tie.After-last_letter = search in
    let s : tie.After-same_bytes = search in
    let d : tie.After-eight_digits = search in
    d.eight_digits.ensures
    ∙ sym (next_word b.args.number b.args.line.now e1.if-line-ne18.false e2.if-line-ne10.false e3.if-line-ne119.false b.args.head.now b.requires
    (omega arith) (e4.if-line-last_letter.false ∙ l.last_letter.ensures) (sym s.same_bytes.ensures ∙ e5.if-not-same_bytes.false))

pub word_in_spec : {M : Type 1} → statement M
word_in_spec =
    tie.close (tie.spec returns (λ c. search rules) returns-2 (λ c. search rules) returns-3 (λ c. search rules) (λ c κs. search rules) returns-4
    (λ c. search rules) (λ c. search rules) (λ c. search rules) (λ c κs. search rules) returns-5 (λ c. search rules) (λ c. search rules)
    (λ c. search rules) (λ c κs. search rules) returns-6)
