-- The sum of the product.
use mathlib.Core.Path.{ap, ◌∙◌}
use Prim.Native.Nat.{ℕ}
use lib.IntN.{pos, ◌+ℤ◌}
use mir.Syntax.{w64}
use Rattle.words.specs.Words.{word}
use borrow.Author.Rules.{rules}
use Rattle.state_lines.proofs.checked.Statement.{statement}
use Rattle.state_lines.proofs.checked.Tie as tie

returns : tie.Need-returns
returns c =
    let m : tie.After-mul_u64 = search in
    let p : tie.Start = search in
    c.add_u64.ensures ∙ ap (λ (n : ℕ). word w64 (pos n +ℤ pos p.args.word)) m.mul_u64.ensures

pub checked_spec : {M : Type 1} → statement M
checked_spec = tie.close (tie.spec (λ c κs. search rules) (λ c κs. search rules) returns)
