-- The gain is the capped power wherever 14 is not given; the tests before and after it are the state's own.
use Rattle.std.proofs.Common.{◌≡◌, ℕ, suc, ◌*◌, ◌-◌, ◌^◌, ◌<◌, ◌≤◌, min, arith, rules, le-ltb, lt-ltb}
use Rattle.std.specs.Prelude.{Result, Err}
use Rattle.blocks.specs.declared.refusal.Refusal.{Refusal}
use Rattle.sums.specs.State.{refusal_of}
use Rattle.sums.specs.Calls.{gain_of, gain_number_of}
use Rattle.sums.proofs.Numbers.{span_some, capped-over, capped_is}
use Rattle.blocks.specs.Refusals.{answer, refusal_at}
use Rattle.blocks.proofs.Refusals.{accepted, refused_too, taken_number}
use Rattle.shape.specs.Powers.{power_cap}
use Rattle.shape.specs.declared.numbers.Numbers.{Numbers}
use Rattle.shape.specs.Answers.{refusal_in}
use Rattle.shape.proofs.Ways.{first_refused, passing}
use Rattle.shape.proofs.numbers.Numbers.gain.Goals as goal

module _ (n : Numbers) (p : ℕ) (z : refusal_of n.order n.delay n.rate n.countdown 0 ≡ 0) (e : p ≡ min ((suc n.rate * n.delay) ^ n.order) power_cap) where
  low : p ≤ 2 ^ 63 - 1 → gain_number_of n.order n.delay n.rate n.countdown n.unsettled ≡ refusal_in n
  unfolding gain_number_of gain_of
  low l = rw (z, le-ltb (2 ^ 63 - 1) ((suc n.rate * n.delay) ^ n.order) (omega (arith, capped_is _ p power_cap (2 ^ 63 - 1) e (omega arith) l)))

  over : 2 ^ 63 - 1 < p → gain_number_of n.order n.delay n.rate n.countdown n.unsettled ≡ 14
  unfolding gain_number_of gain_of
  over l = rw (z, lt-ltb (2 ^ 63 - 1) ((suc n.rate * n.delay) ^ n.order) (capped-over _ p power_cap (2 ^ 63 - 1) e (omega arith) l))

-- what is refused whatever is unsettled
first : (n : Numbers) (r : Refusal) → ◌≡◌ {A = Result (Unit {0}) Refusal} (Err r) (answer (refusal_of n.order n.delay n.rate n.countdown 0) tt)
    → ◌≡◌ {A = Result ℕ Refusal} (Err r) (answer (gain_number_of n.order n.delay n.rate n.countdown n.unsettled) (gain_of n.order n.delay n.rate))
unfolding gain_number_of
first n r e = first_refused (refusal_of n.order n.delay n.rate n.countdown 0) _ tt (gain_of n.order n.delay n.rate) r e

pub returns-in_err-check : goal.returns-in_err-check
returns-in_err-check c = search (rules, first c.args.self c.in_err-check.field-0.0 c.in_err-check.ensures)

pub overflow_cast-self : goal.overflow_cast-self
overflow_cast-self c = record { fits = omega (arith, (passing _ c.in_ok-check.ensures).short) }

pub power-gain-requires : goal.power-gain-requires
power-gain-requires c = let s = c.args.self in rw c.span.ensures (span_some s.rate s.delay (passing _ c.in_ok-check.ensures).some)

pub returns-then-gain-gt-MOST : goal.returns-then-gain-gt-MOST
unfolding answer refusal_at
returns-then-gain-gt-MOST c =
    rw (over c.args.self c.power-gain.result (taken_number _ tt tt c.in_ok-check.ensures) (rw c.span.ensures at c.power-gain.ensures)
    c.if-gain-gt-MOST.true)

pub returns-in_err-check-2 : goal.returns-in_err-check-2
unfolding answer
returns-in_err-check-2 c =
    rw (low c.args.self c.power-gain.result (taken_number _ tt tt c.in_ok-check.ensures) (rw c.span.ensures at c.power-gain.ensures)
    c.if-gain-gt-MOST.false) (search (rules, refused_too))

pub returns : goal.returns
unfolding gain_of
returns c =
    let s = c.args.self in
    let e = rw c.span.ensures at c.power-gain.ensures in
    let z = taken_number _ tt tt c.in_ok-check.ensures in
    rw (low s c.power-gain.result z e c.if-gain-gt-MOST.false)
    (rw (capped_is _ c.power-gain.result power_cap (2 ^ 63 - 1) e (omega arith) c.if-gain-gt-MOST.false)
    (accepted _ _ (taken_number _ tt tt c.in_ok-check-2.ensures)))
