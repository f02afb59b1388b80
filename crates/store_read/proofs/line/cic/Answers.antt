-- Three words read as u32 are the record; any other count is none.
use Rattle.std.proofs.Common.{◌≡◌, ap, pos, get_or, ◌∙◌}
use Rattle.std.specs.Option.{option_copied}
use Rattle.std.specs.Int.{w32}
use Rattle.words.specs.Words.{word}
use Rattle.text.specs.Ranges.{unsigned, numbers_in}
use Rattle.settings_text.specs.Lines.{cic_in}
use Rattle.store_read.specs.Reading.{parts_left}
use Rattle.store_read.proofs.Ends.{cic_none, cic_other, cic_some, words_fit}
use Rattle.store_read.proofs.line.cic.Goals as goal

pub returns-in_err-ns : goal.returns-in_err-ns
unfolding cic_in
returns-in_err-ns c = λ name. rw c.from_residual.ensures (cic_none name _ c.in_err-ns.ensures)

pub returns-then-ns-ne3 : goal.returns-then-ns-ne3
unfolding cic_in
returns-then-ns-ne3 c = λ name. cic_other name c.in_ok-ns.ns _ c.in_ok-ns.ensures c.if-ns-ne3.true

pub returns : goal.returns
returns c = λ name.
    let fs = parts_left 9 (option_copied c.args.fields) in
    let ns = c.in_ok-ns.ns in
    let fit = words_fit ns (numbers_in unsigned fs) c.in_ok-ns.ensures in
    let x : c.i32_as_u32-order.result ≡ word w32 (get_or ns.words 0 (pos 0)) = c.i32_as_u32-order.ensures ∙ ap (word w32) (fit 0) in
    let y : c.i32_as_u32-delay.result ≡ word w32 (get_or ns.words 1 (pos 0)) = c.i32_as_u32-delay.ensures ∙ ap (word w32) (fit 1) in
    let z : c.i32_as_u32-rate.result ≡ word w32 (get_or ns.words 2 (pos 0)) = c.i32_as_u32-rate.ensures ∙ ap (word w32) (fit 2) in
    rw (x, y, z) (cic_some name ns fs c.in_ok-ns.ensures c.if-ns-ne3.false)
