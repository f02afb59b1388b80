-- Each way that the number's parser ends is one of the range's.
use Rattle.std.proofs.Common.{arith, ap, ◌∙◌, Some}
use Rattle.store_read.proofs.Counting.{minus_in, minus-out, minus_some, plus_in, plus-out, wrong_out}
use Rattle.store_read.proofs.line.word_of.Goals as goal

pub overflow_cast-result-then-v-least : goal.overflow_cast-result-then-v-least
overflow_cast-result-then-v-least c =
    let s = minus_some _ _ _ c.requires.0 c.requires.1 c.parsed.result c.parsed.ensures _ (c.in_ok-v.was ∙ ap Some c.in-Minus.is) in
    record { fits = omega arith }

pub returns-then-v-most : goal.returns-then-v-most
returns-then-v-most c = plus_in _ _ _ c.requires.0 c.requires.1 c.parsed.result c.parsed.ensures _ (c.in_ok-v.was ∙ ap Some c.in-Plus.is) c.if-v-most.true

pub returns-else-v-most : goal.returns-else-v-most
returns-else-v-most c = plus-out _ _ _ c.requires.0 c.requires.1 c.parsed.result c.parsed.ensures _ (c.in_ok-v.was ∙ ap Some c.in-Plus.is) c.if-v-most.false

pub returns-then-v-least : goal.returns-then-v-least
returns-then-v-least c = minus_in _ _ _ c.requires.0 c.requires.1 c.parsed.result c.parsed.ensures _ (c.in_ok-v.was ∙ ap Some c.in-Minus.is) c.if-v-least.true

pub returns-else-v-least : goal.returns-else-v-least
returns-else-v-least c = minus-out _ _ _ c.requires.0 c.requires.1 c.parsed.result c.parsed.ensures _ (c.in_ok-v.was ∙ ap Some c.in-Minus.is) c.if-v-least.false

pub returns-in_err-v : goal.returns-in_err-v
returns-in_err-v c = c.from_residual.ensures ∙ wrong_out _ _ _ c.requires.0 c.requires.1 c.parsed.result c.parsed.ensures c.in_err-v.was
