-- Each arm knows that its numbers are u32 (Judging).
use borrow.Author.Rules.{rules}
use native.Mathlib.Omega.{arith}
use Rattle.store_write.proofs.Judging.{allowed_cic, allowed_dither}
use Rattle.store_write.proofs.saving.allowed.Statement.{statement}
use Rattle.store_write.proofs.saving.allowed.Tie as tie

returns : tie.Need-returns-in-Cic
returns c =
    let begin : tie.Start = search in
    allowed_cic begin.args.version begin.args.kind _ _ _ c.in-Cic.is (omega arith) (omega arith) (omega arith)

returns-4 : tie.Need-returns-in-Two
returns-4 c =
    let begin : tie.Start = search in
    allowed_dither begin.args.version begin.args.kind _ c.in-Two.is c.in-Dither.is (omega arith)

pub allowed_spec : {M : Type 1} → statement M
allowed_spec =
    tie.close (tie.spec (λ c. search rules) (λ c. search rules) (λ c. search rules) (λ c. search rules) (λ c. search rules)
    returns (λ c. search rules) (λ c. search rules) returns-4)
