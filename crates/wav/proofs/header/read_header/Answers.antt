-- Each test that fails makes `is_header` false (Headers), and all together make it true.
use Rattle.std.proofs.Common.{ℕ, ◌+◌, ap, sym, ◌∙◌}
use Rattle.std.proofs.lemmas.Result.{err_from_is_err_and}
use Rattle.wav.proofs.Headers.{short, cannot_be, wrong_length, unlike, right}
use Rattle.wav.proofs.header.read_header.Goals as goal

pub returns-in_default : goal.returns-in_default
returns-in_default c = short c.args.bytes.now c.args.length c.in_default.ensures.cases

pub returns-in_err-expected : goal.returns-in_err-expected
returns-in_err-expected c =
    let p = err_from_is_err_and c.from_residual.result c.from_residual.ensures.1 in
    rw (p.1, p.2) (cannot_be c.args.bytes.now c.args.length c.in-Some.head.now c.four-rate.result c.four-size.result
    c.in-Some.ensures.cases c.four-rate.ensures c.four-size.ensures _ c.in_err-expected.ensures)

pub returns-then-length-from : goal.returns-then-length-from
returns-then-length-from c =
    wrong_length c.args.bytes.now c.args.length c.in-Some.head.now c.four-rate.result c.four-size.result
    c.in-Some.ensures.cases c.four-rate.ensures c.four-size.ensures
    (λ e. c.if-length-from.true (e ∙ ap (λ (n : ℕ). 44 + n) (sym c.from.ensures)))

pub returns-then-ne : goal.returns-then-ne
returns-then-ne c =
    unlike c.args.bytes.now c.args.length c.in-Some.head.now c.four-rate.result c.four-size.result
    c.in-Some.ensures.cases c.four-rate.ensures c.four-size.ensures c.in_ok-expected.expected c.in_ok-expected.ensures c.if-ne.ensures

pub returns : goal.returns
returns c =
    right c.args.bytes.now c.args.length c.in-Some.head.now c.four-rate.result c.four-size.result
    c.in-Some.ensures.cases c.four-rate.ensures c.four-size.ensures c.in_ok-expected.expected c.in_ok-expected.ensures
    (c.if-length-from.false ∙ ap (λ (n : ℕ). 44 + n) c.from.ensures) c.if-ne.ensures
