-- Refused, or the state that the words tell (Words).
use Rattle.std.proofs.Common.{rules, ◌≡◌, refl, sym, ◌∙◌, w64, lt-ltb, le-ltb}
use Rattle.std.specs.Prelude.{Ok, Err}
use Rattle.words.proofs.Reading.{read}
use Rattle.desk.specs.Saved.{word_at, state_loaded}
use Rattle.desk.proofs.Words.{state_is}
use Rattle.desk.proofs.saved.load_state.Goals as goal

pub returns-then-rate-gt4294967295 : goal.returns-then-rate-gt4294967295
unfolding state_loaded
returns-then-rate-gt4294967295 c =
    sym (rw (lt-ltb 4294967295 (word_at c.args.line.now 2) (rw c.word_at-rate.ensures at c.if-rate-gt4294967295.true)))

pub returns-then-countdown-gt4294967295 : goal.returns-then-countdown-gt4294967295
unfolding state_loaded
returns-then-countdown-gt4294967295 c =
    let line = c.args.line.now in
    sym (rw (
      le-ltb 4294967295 (word_at line 2) (rw c.word_at-rate.ensures at c.if-rate-gt4294967295.false),
      lt-ltb 4294967295 (word_at line 3) (rw c.word_at-countdown.ensures at c.if-countdown-gt4294967295.true),
    ))

pub returns-in_err-filter : goal.returns-in_err-filter
returns-in_err-filter c =
    let r = c.in_err-filter in let e : c.from_residual.result ≡ Err r.field-0.0 = search rules in
    state_is c.args.line.now _ _ _ _ _ _ _ _ _ (Err r.field-0.0) c.from_residual.result c.word_at-order.ensures c.word_at-delay.ensures
    c.word_at-rate.ensures c.word_at-countdown.ensures c.word_at-inputs.ensures
    (read w64 c.signed_at-hold.result c.signed_at-hold.type_inv ∙ c.signed_at-hold.ensures)
    (read w64 c.signed_at-y.result c.signed_at-y.type_inv ∙ c.signed_at-y.ensures)
    c.cells_of-integrators.ensures c.cells_of-combs.ensures c.if-rate-gt4294967295.false c.if-countdown-gt4294967295.false r.ensures.0 e

pub returns : goal.returns
returns c =
    let r = c.in_ok-filter in
    state_is c.args.line.now _ _ _ _ _ _ _ _ _ (Ok r.filter) _ c.word_at-order.ensures c.word_at-delay.ensures
    c.word_at-rate.ensures c.word_at-countdown.ensures c.word_at-inputs.ensures
    (read w64 c.signed_at-hold.result c.signed_at-hold.type_inv ∙ c.signed_at-hold.ensures)
    (read w64 c.signed_at-y.result c.signed_at-y.type_inv ∙ c.signed_at-y.ensures)
    c.cells_of-integrators.ensures c.cells_of-combs.ensures c.if-rate-gt4294967295.false c.if-countdown-gt4294967295.false r.ensures.0 refl
