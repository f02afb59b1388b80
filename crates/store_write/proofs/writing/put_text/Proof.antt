-- A tab and the bytes.
use borrow.Author.Rules.{rules}
use native.Mathlib.Omega.{arith}
use Prim.Native.Nat.{◌+◌}
use lib.ListN.{length}
use Rattle.store_write.proofs.Putting.{one_field}
use Rattle.store_write.proofs.writing.put_text.Statement.{statement}
use Rattle.store_write.proofs.writing.put_text.Tie as tie

returns : tie.Need-returns
returns c =
    let begin : tie.Start = search in
    let at-put-byte : tie.After-put_byte-next = search in
    let at-put-bytes : tie.After-put_bytes = search in
    let a = begin.args in
    one_field a.out.now a.at a.s.now (length a.s.now + 1) _ _ _ _ begin.requires (omega arith)
    at-put-byte.put_byte-next.ensures at-put-bytes.put_bytes.ensures

pub put_text_spec : {M : Type 1} → statement M
put_text_spec =
    tie.close (tie.spec (λ c κs. search rules) (λ c κs. search rules) (λ c. search rules) returns)
