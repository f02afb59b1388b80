-- A difference that does not wrap, in place of a sum that may.
use Rattle.std.proofs.Common.{sym, ◌+◌, arith}
use borrow.Author.Tests.{lt-leb}
use Rattle.text.proofs.Putting.{fits_test}
use Rattle.text.proofs.writing.has_room.Goals as goal

pub returns-then-len-at : goal.returns-then-len-at
returns-then-len-at c = let a = c.args in sym (lt-leb (a.at + a.n) a.len (omega (arith, c.if-len-at.true)))

pub returns : goal.returns
returns c = let a = c.args in fits_test a.len a.at a.n c.if-len-at.false
