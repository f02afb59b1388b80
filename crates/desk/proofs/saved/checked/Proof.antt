-- The sum of the product.
use mathlib.Core.Path.{ap, ◌∙◌}
use Prim.Native.Nat.{ℕ}
use lib.IntN.{pos, ◌+ℤ◌}
use mir.Syntax.{w64}
use Rattle.words.specs.Words.{word}
use borrow.Author.Rules.{rules}
use Rattle.desk.proofs.saved.checked.Statement.{statement}
use Rattle.desk.proofs.saved.checked.Tie as tie

returns : tie.Need-returns
returns c =
    let m : tie.After-mul-u64 = search in
    let p : tie.Start = search in
    c.add-u64.ensures ∙ ap (λ (n : ℕ). word w64 (pos n +ℤ pos p.args.word)) m.mul-u64.ensures

pub checked-spec : {M : Type 1} → statement M
checked-spec = tie.close (tie.spec (λ c κs. search rules) (λ c κs. search rules) returns)
