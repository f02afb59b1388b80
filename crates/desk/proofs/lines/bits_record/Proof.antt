-- By the digits.
use mathlib.Core.Path.{sym, ap}
use Rattle.desk.specs.Lines.{bits_record}
use borrow.Author.Rules.{rules}
use Rattle.desk.proofs.lines.bits_record.Statement.{statement}
use Rattle.desk.proofs.lines.bits_record.Tie as tie

returns-2 : tie.Need-returns
returns-2 c =
    let w : tie.In-Some = search in
    sym (ap (bits_record _) w.in-Some.is)

pub bits_record_spec : {M : Type 1} → statement M
bits_record_spec = tie.close (tie.spec (λ c. search rules) (λ c. search rules) (λ c. search rules) (λ c. search rules) (λ c. search rules) returns-2)
