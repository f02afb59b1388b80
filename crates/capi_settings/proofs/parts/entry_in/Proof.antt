-- The kind's promise.
use borrow.Author.Rules.{rules}
use Rattle.capi_settings.proofs.parts.entry_in.Statement.{statement}
use Rattle.capi_settings.proofs.parts.entry_in.Tie as tie

returns : tie.Need-returns
returns c = let k : tie.After-kind_at-which = search in rw k.kind_at-which.ensures

pub entry_in_spec : {M : Type 1} → statement M
entry_in_spec = tie.close (tie.spec (λ c κs. search rules) returns)
