-- Sixteen digits.
use mathlib.Core.Path.{◌≡◌, ap, ◌∙◌}
use Prim.Native.Nat.{ℕ, ◌+◌, ◌-◌, ◌*◌}
use native.Mathlib.Omega.{arith}
use lib.ListN.{take, drop}
use Rattle.text.specs.Hex.{pattern_of}
use borrow.Author.Rules.{rules}
use Rattle.desk.proofs.saved.pattern_at.Statement.{statement}
use Rattle.desk.proofs.saved.pattern_at.Tie as tie

returns : tie.Need-returns
returns c =
    let p : tie.Start = search in
    let a = p.args in
    let e : 16 * a.i + 1 + 16 - (16 * a.i + 1) ≡ 16 = omega arith in
    c.hex_word.ensures ∙ ap (λ (k : ℕ). pattern_of (take k (drop (16 * a.i + 1) a.line.now))) e

pub pattern_at_spec : {M : Type 1} → statement M
pattern_at_spec = tie.close (tie.spec (λ c. search rules) (λ c. search rules) (λ c. search rules) (λ c. search rules) (λ c. search rules) (λ c. search rules) (λ c κs. search rules) returns)
