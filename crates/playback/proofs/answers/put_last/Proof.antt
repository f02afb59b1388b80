-- Each part is put behind the one before.
use borrow.Author.Rules.{rules}
use Rattle.playback.proofs.Answering.{last-wrote}
use Rattle.playback.proofs.answers.put_last.Statement.{statement}
use Rattle.playback.proofs.answers.put_last.Tie as tie

returns : tie.Need-returns
returns c =
    let at-put-decimal : tie.After-put_decimal-b = search in
    let at-put-byte : tie.After-put_byte-a = search in
    let begin : tie.Start = search in
    let a = begin.args in
    last-wrote a.out.now a.at a.n _ _ _ _ _ _ begin.requires at-put-byte.put_byte-a.ensures
    at-put-decimal.put_decimal-b.ensures c.before.before.put_byte.ensures

pub put_last_spec : {M : Type 1} → statement M
put_last_spec =
    tie.close (tie.spec (λ c κs. search rules) (λ c κs. search rules) (λ c κs. search rules) (λ c. search rules) returns)
