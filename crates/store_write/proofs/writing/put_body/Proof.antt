-- Each arm puts its own fields.
use borrow.Author.Rules.{rules}
use native.Mathlib.Omega.{arith}
use mathlib.Core.Path.{ap}
use Rattle.store_write.specs.Writing.{sections}
use Rattle.store_write.proofs.Putting.{wider}
use Rattle.store_write.proofs.writing.put_body.Statement.{statement}
use Rattle.store_write.proofs.writing.put_body.Tie as tie

put-wdf-requires : tie.Need-put_wdf-requires
put-wdf-requires c κs =
    let begin : tie.Start = search in
    let s = begin.requires.1 in
    let e = ap sections c.in-Wdf.is in
    (begin.requires.0, omega arith)

returns : tie.Need-returns-in-Cic
returns c =
    let at-put-cic : tie.After-put_cic = search in
    rw c.in-Cic.is (wider at-put-cic.put_cic.ensures (omega arith))

returns-2 : tie.Need-returns-in-Wdf
returns-2 c =
    let at-put-wdf : tie.After-put_wdf = search in
    rw c.in-Wdf.is at-put-wdf.put_wdf.ensures

put-dither-requires : tie.Need-put_dither-requires
put-dither-requires c κs =
    let begin : tie.Start = search in
    begin.requires.0

returns-3 : tie.Need-returns-in-Dither
returns-3 c =
    let at-put-dither : tie.After-put_dither = search in
    rw c.in-Dither.is at-put-dither.put_dither.ensures

pub put_body_spec : {M : Type 1} → statement M
put_body_spec =
    tie.close (tie.spec (λ c. search rules) (λ c κs. search rules) (λ c. search rules) put-wdf-requires
    (λ c. search rules) put-dither-requires (λ c. search rules) returns (λ c. search rules) returns-2 (λ c. search rules) returns-3)
