-- By what ends the line (Stepping).
use mathlib.Core.Path.{sym, ap, ◌∙◌}
use native.Mathlib.Omega.{arith}
use lib.ListN.{length-set}
use lib.Seq.{length-take-le}
use borrow.Author.Rules.{rules}
use Rattle.text.proofs.Putting.{wrote-same, nothing}
use Rattle.std.specs.Prelude.{Err}
use Rattle.blocks.specs.declared.refusal.Refusal.{Refusal}
use Rattle.coefficients.specs.declared.parts.Place.{Place}
use Rattle.coefficients.proofs.Stepping.{ends-newline, ends-long, ended-place, ended-given, longer-place, longer-given}
use Rattle.coefficients.proofs.parts.take_byte.Statement.{statement}
use Rattle.coefficients.proofs.parts.take_byte.Tie as tie

slice-aggregate-line-bits : tie.Need-slice_bounds-line_bits-end-then-b-eq10
slice-aggregate-line-bits c =
    let begin : tie.Start = search in
    sym (length-take-le begin.args.p.len begin.args.line.now (omega (arith, begin.requires.0, begin.requires.1)))

returns : tie.Need-returns-then-b-eq10
returns c =
    let begin : tie.Start = search in
    let newline : tie.Then-b-eq10 = search in
    let at_bits : tie.After-line_bits-answer = search in
    let at-end : tie.After-end_line = search in
    let a = begin.args in let l = a.line.now in
    let x = at-end.end_line.ensures in
    let e = ends-newline a.p l a.b at_bits.line_bits-answer.result newline.if-b-eq10.true at_bits.line_bits-answer.ensures in (
      ended-place a.p l a.b at_bits.line_bits-answer.result at-end.end_line.result.place l e x.0,
      wrote-same (ended-given a.p l a.b at_bits.line_bits-answer.result e) x.1,
      rw x.0 (omega arith),
      begin.requires.1,
      x.2,
      λ t. x.3 (sym (ap (λ (r : Place). r.going) x.0) ∙ t),
    )

returns-2 : tie.Need-returns-then-len-eq64
returns-2 c =
    let begin : tie.Start = search in
    let other : tie.Else-b-eq10 = search in
    let full : tie.Then-len-eq64 = search in
    let at-end : tie.After-end_line-then-len-eq64 = search in
    let a = begin.args in let l = a.line.now in
    let x = at-end.end_line-then-len-eq64.ensures in
    let e = ends-long a.p l a.b other.if-b-eq10.false full.if-len-eq64.true begin.requires.1 in (
      ended-place a.p l a.b (Err Refusal.LongLine) at-end.end_line-then-len-eq64.result.place l e x.0,
      wrote-same (ended-given a.p l a.b (Err Refusal.LongLine) e) x.1,
      rw x.0 (omega arith),
      begin.requires.1,
      x.2,
      λ t. x.3 (sym (ap (λ (r : Place). r.going) x.0) ∙ t),
    )

returns-3 : tie.Need-returns
returns-3 c =
    let begin : tie.Start = search in
    let other : tie.Else-b-eq10 = search in
    let room : tie.Else-len-eq64 = search in
    let a = begin.args in let l = a.line.now in
    let f = begin.requires.0 in let g = begin.requires.1 in let h = room.if-len-eq64.false in (
      longer-place a.p l a.b other.if-b-eq10.false (omega arith) g,
      wrote-same (sym (longer-given a.p l a.b other.if-b-eq10.false (omega arith) g)) (nothing a.out.now a.at),
      omega arith,
      simp length-set g,
      omega arith,
      λ t. omega arith,
    )

pub take_byte_spec : {M : Type 1} → statement M
take_byte_spec =
    tie.close (tie.spec (λ c. search rules) slice-aggregate-line-bits (λ c κs. search rules) (λ c κs. search rules)
    (λ c. search rules) (λ c. search rules) returns (λ c κs. search rules) (λ c. search rules) returns-2 (λ c. search rules)
    (λ c. search rules) (λ c. search rules) returns-3)
