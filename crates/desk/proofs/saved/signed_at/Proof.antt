-- The word, read back from its bits.
use mir.Syntax.{w64}
use Rattle.words.proofs.Reading.{read}
use borrow.Author.Rules.{rules}
use Rattle.desk.proofs.saved.signed_at.Statement.{statement}
use Rattle.desk.proofs.saved.signed_at.Tie as tie

returns : tie.Need-returns
returns c =
    let w : tie.After-word_at = search in
    rw (read w64 c.u64_as_i64.result c.u64_as_i64.type_inv, c.u64_as_i64.ensures, w.word_at.ensures)

pub signed_at_spec : {M : Type 1} → statement M
signed_at_spec = tie.close (tie.spec (λ c κs. search rules) (λ c κs. search rules) returns)
