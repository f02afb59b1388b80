-- Its letters, put.
use borrow.Author.Rules.{rules}
use Rattle.text.proofs.Putting.{puts_same}
use Rattle.state_lines.proofs.put_word.Statement.{statement}
use Rattle.state_lines.proofs.put_word.Tie as tie

returns : tie.Need-returns
returns c =
    let l : tie.After-letters-digits = search in
    let p : tie.After-put_bytes = search in
    puts_same l.letters-digits.ensures p.put_bytes.ensures

pub put_word_spec : {M : Type 1} → statement M
put_word_spec = tie.close (tie.spec (λ c κs. search rules) (λ c. search rules) (λ c κs. search rules) (λ c. search rules) returns)
