-- A line of `x`, a tab and a number within the word is a sample (Gathering); anything else is left alone.
use mathlib.Core.Path.{ap, ◌∙◌}
use native.Mathlib.Omega.{arith}
use mir.Syntax.{w64}
use mir.ValLaws.{to_z-of_z}
use borrow.Author.Rules.{rules}
use Rattle.records.specs.Inner.Fields.{integer_of}
use Rattle.playback.proofs.Gathering.{sample-found}
use Rattle.playback.proofs.samples.sample_at.Statement.{statement}
use Rattle.playback.proofs.samples.sample_at.Tie as tie

returns-7 : tie.Need-returns
returns-7 c =
    let at_told : tie.After-struct_told-1 = search in
    let else6 : tie.Else-v-ne0 = search in
    let at-integer : tie.After-integer_of-v = search in
    let at-parsed : tie.After-parsed = search in
    let else5 : tie.Else-end-from-gt62 = search in
    let else4 : tie.Else-n-end = search in
    let at-part-end : tie.After-part_end-end = search in
    let else3 : tie.Else-input-at-ne9 = search in
    let else2 : tie.Else-input-at-ne120 = search in
    let begin : tie.Start = search in
    let a = begin.args in
    let e = at-part-end.part_end-end in
    let v = at-integer.integer_of-v.result in
    let y = to_z-of_z w64 v.value (record { sfits = at_told.struct_told-1.given.1.0.1 }) in
    rw y (sample-found a.wide a.input.now a.at e.result (omega arith) else2.if-input-at-ne120.false else3.if-input-at-ne9.false
    e.ensures else4.if-n-end.false else5.if-end-from-gt62.false v
    (at-integer.integer_of-v.ensures ∙ ap (integer_of a.wide) at-parsed.parsed.ensures) else6.if-v-ne0.false)

pub sample_at_spec : {M : Type 1} → statement M
sample_at_spec =
    tie.close (tie.spec (λ c. search rules) (λ c. search rules) (λ c. search rules) (λ c. search rules)
    (λ c. search rules) (λ c. search rules) (λ c. search rules) (λ c. search rules) (λ c κs. search rules)
    (λ c. search rules) (λ c. search rules) (λ c. search rules) (λ c. search rules) (λ c. search rules)
    (λ c. search rules) (λ c κs. search rules) (λ c κs. search rules) (λ c. search rules) (λ c. search rules) returns-7)
