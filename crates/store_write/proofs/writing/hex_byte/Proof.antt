-- The test is the definition's.
use borrow.Author.Rules.{rules}
use mathlib.Core.Path.{sym}
use borrow.Author.Tests.{lt-ltb, le-ltb}
use Rattle.settings_text.specs.Fields.{hex_of}
use Rattle.store_write.proofs.writing.hex_byte.Statement.{statement}
use Rattle.store_write.proofs.writing.hex_byte.Tie as tie

returns : tie.Need-returns-then-d-lt10
unfolding hex_of
returns c = sym (rw (lt-ltb _ _ c.if-d-lt10.true))

returns-2 : tie.Need-returns
unfolding hex_of
returns-2 c = sym (rw (le-ltb _ _ c.if-d-lt10.false))

pub hex_byte_spec : {M : Type 1} → statement M
hex_byte_spec =
    tie.close (tie.spec (λ c. search rules) (λ c. search rules) returns (λ c. search rules) (λ c. search rules)
    returns-2)
