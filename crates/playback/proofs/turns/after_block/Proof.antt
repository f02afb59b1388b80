-- The definition itself.
use mathlib.Core.Path.{refl}
use borrow.Author.Rules.{rules}
use Rattle.playback.proofs.turns.after_block.Statement.{statement}
use Rattle.playback.proofs.turns.after_block.Tie as tie

returns : tie.Need-returns
returns c = (rw (c.before.count_up.ensures, c.count_up-2.ensures), refl)

pub after_block_spec : {M : Type 1} → statement M
after_block_spec = tie.close (tie.spec (λ c κs. search rules) (λ c κs. search rules) returns)
