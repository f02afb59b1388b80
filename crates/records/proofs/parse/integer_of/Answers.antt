-- By sign and size; a number of the word is read back from its 64 bits.
use Rattle.std.proofs.Common.{rules, ◌≡◌, ap, ◌∙◌, arith, w64}
use Rattle.std.specs.Prelude.{Some}
use Rattle.text.specs.declared.numbers.Number.TheVariants.{Plus, Minus}
use Rattle.words.proofs.Reading.{read}
use Rattle.records.specs.Inner.Fields.{integer_of}
use Rattle.records.proofs.Parsing.{of_word, least-size-most, plus_in, minus_in, plus-held, minus-held}
use Rattle.records.proofs.parse.integer_of.Goals as goal

pub returns-then-v-least : goal.returns-then-v-least
returns-then-v-least c =
    let w = c.args.wide in let v = c.in-Some-Plus.v in
    let n : Some (Plus v) ≡ c.args.n = search rules in
    let e = read w64 c.u64_as_i64.result c.u64_as_i64.type_inv in
    let l = c.least_size-least.ensures in
    let h = c.if-v-least.true in
    ap (of_word 0) (e ∙ c.u64_as_i64.ensures ∙ plus_in v (omega (arith, h, l, least-size-most w)))
    ∙ plus-held w v c.least_size-least.result l h ∙ ap (integer_of w) n

pub returns-then-v-least-2 : goal.returns-then-v-least-2
returns-then-v-least-2 c =
    let w = c.args.wide in let v = c.in-Some-Minus.v in
    let n : Some (Minus v) ≡ c.args.n = search rules in
    let e = read w64 c.u64_as_i64-then-v-least-2.result c.u64_as_i64-then-v-least-2.type_inv in
    let l = c.least_size-least.ensures in
    let h = c.if-v-least-2.true in
    ap (of_word 0) (e ∙ c.u64_as_i64-then-v-least-2.ensures ∙ minus_in v c.if-v-eq0.false (omega (arith, h, l, least-size-most w)))
    ∙ minus-held w v c.least_size-least.result l c.if-v-eq0.false h ∙ ap (integer_of w) n
