-- The kind recast; name and numbers stay.
use borrow.Author.Rules.{rules}
use Rattle.store.proofs.moving.recast.Statement.{statement}
use Rattle.store.proofs.moving.recast.Tie as tie

returns : tie.Need-returns
returns c =
    let called : tie.After-recast_kind-kind = search in
    rw called.recast_kind-kind.ensures

pub recast_spec : {M : Type 1} → statement M
recast_spec = tie.close (tie.spec (λ c κs. search rules) returns)
