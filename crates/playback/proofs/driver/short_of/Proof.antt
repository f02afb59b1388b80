-- A quotient in place of a product that may wrap.
use mathlib.Core.Path.{sym}
use native.Mathlib.Omega.{arith}
use Prim.Native.Nat.{◌+◌, ◌*◌}
use borrow.Author.Tests.{lt-ltb}
use Rattle.playback.proofs.Turning.{short_test}
use Rattle.playback.proofs.driver.short_of.Statement.{statement}
use Rattle.playback.proofs.driver.short_of.Tie as tie

returns : tie.Need-returns-then-len-lt492
returns c = let a = c.before.args in sym (lt-ltb a.len (7 * a.n + 492) (omega arith))

returns-2 : tie.Need-returns
returns-2 c = let a = c.before.args in short_test a.len a.n c.if-len-lt492.false

pub short_of_spec : {M : Type 1} → statement M
short_of_spec = tie.close (tie.spec returns returns-2)
