-- The tests of the definition, in turn.
use Rattle.std.proofs.Common.{sym, eq-eqb, ne_eqb}
use borrow.Author.Tests.{not-true, not-false}
use Rattle.desk.specs.Desks.{so_far, event_answer}
use Rattle.desk.proofs.desk.event.Goals as goal

pub returns-then-argument-ne0 : goal.returns-then-argument-ne0
unfolding event_answer
returns-then-argument-ne0 c = sym (rw (ne_eqb _ _ c.if-argument-ne0.true))

pub returns-then-not-d : goal.returns-then-not-d
unfolding event_answer
returns-then-not-d c = sym (rw (eq-eqb _ _ c.if-argument-ne0.false, not-true c.args.d.opened c.if-not-d.true))

pub returns-then-number-so_far : goal.returns-then-number-so_far
unfolding event_answer
returns-then-number-so_far c =
    let a = c.args in
    sym (rw (
      eq-eqb _ _ c.if-argument-ne0.false,
      not-false a.d.opened c.if-not-d.false,
      ne_eqb a.number (so_far a.d) (rw c.so_far.ensures at c.if-number-so_far.true),
    ))

pub returns : goal.returns
unfolding event_answer
returns c =
    let a = c.args in
    sym (rw (
      eq-eqb _ _ c.if-argument-ne0.false,
      not-false a.d.opened c.if-not-d.false,
      eq-eqb a.number (so_far a.d) (rw c.so_far.ensures at c.if-number-so_far.false),
    ))
