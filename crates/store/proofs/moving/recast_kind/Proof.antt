-- A `cic`'s third number and a `wdf`'s architecture, and all others as they are.
use borrow.Author.Rules.{rules}
use Rattle.store.proofs.moving.recast_kind.Statement.{statement}
use Rattle.store.proofs.moving.recast_kind.Tie as tie

returns : tie.Need-returns-in-Cic
returns c = rw (c.in-Cic.is, c.third.ensures)

returns-2 : tie.Need-returns-in-Wdf
returns-2 c = rw (c.in-Wdf.is, c.architecture_in.ensures)

returns-3 : tie.Need-returns-in-Dither
returns-3 c = rw c.in-Dither.is

pub recast_kind_spec : {M : Type 1} → statement M
recast_kind_spec =
    tie.close (tie.spec (λ c. search rules) (λ c κs. search rules) (λ c. search rules) (λ c κs. search rules)
    (λ c. search rules) returns
    returns-2 returns-3)
