-- The tests are the definition's.
use borrow.Author.Rules.{rules}
use native.Mathlib.Omega.{arith}
use borrow.Author.Tests.{lt-ltb, le-ltb}
use mathlib.Core.Path.{sym}
use Rattle.store.specs.Moving.{third_in}
use Rattle.store.proofs.moving.third.Statement.{statement}
use Rattle.store.proofs.moving.third.Tie as tie

returns : tie.Need-returns-then-n-lt1
unfolding third_in
returns c = rw c.in-One.is (omega (arith, c.if-n-lt1.true))

returns-2 : tie.Need-returns-then-n-lt4294967295
unfolding third_in
returns-2 c = rw c.in-Two.is (sym (rw (lt-ltb _ _ c.if-n-lt4294967295.true)))

returns-3 : tie.Need-returns-else-n-lt1
unfolding third_in
returns-3 c = rw c.in-One.is

returns-4 : tie.Need-returns-else-n-lt4294967295
unfolding third_in
returns-4 c = rw c.in-Two.is (sym (rw (le-ltb _ _ c.if-n-lt4294967295.false)))

pub third_spec : {M : Type 1} → statement M
third_spec =
    tie.close (tie.spec (λ c. search rules) returns (λ c. search rules) (λ c. search rules) returns-2 returns-3 returns-4)
