-- Form 2 asks for the current adapters.
use borrow.Author.Rules.{rules}
use Rattle.store.specs.Moving.{architecture_in}
use Rattle.store.proofs.moving.architecture_in.Statement.{statement}
use Rattle.store.proofs.moving.architecture_in.Tie as tie

returns : tie.Need-returns-in-One
unfolding architecture_in
returns c = rw c.in-One.is

returns-2 : tie.Need-returns-in-Two
unfolding architecture_in
returns-2 c = rw c.in-Two.is c.current_architecture.ensures

pub architecture_in_spec : {M : Type 1} → statement M
architecture_in_spec = tie.close (tie.spec (λ c. search rules) (λ c. search rules) (λ c κs. search rules) returns returns-2)
