-- The numbers' promise.
use borrow.Author.Rules.{rules}
use Rattle.capi_settings.proofs.parts.entry_out.Statement.{statement}
use Rattle.capi_settings.proofs.parts.entry_out.Tie as tie

returns : tie.Need-returns
returns c = let k : tie.After-numbers_of-n = search in rw k.numbers_of-n.ensures

pub entry_out_spec : {M : Type 1} → statement M
entry_out_spec = tie.close (tie.spec (λ c κs. search rules) returns)
