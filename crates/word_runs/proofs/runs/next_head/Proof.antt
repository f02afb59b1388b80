-- The first seven digits change with every sixteenth number.
use mathlib.Core.Path.{ap, ◌∙◌}
use native.Mathlib.Omega.{arith}
use Prim.Native.Nat.{ℕ, ◌/◌, ◌%◌}
use borrow.Author.Rules.{rules}
use Rattle.hex_letters.specs.Letters.{letters_of}
use Rattle.word_runs.proofs.Reading.{same_sixteen}
use Rattle.word_runs.proofs.runs.next_head.Statement.{statement}
use Rattle.word_runs.proofs.runs.next_head.Tie as tie

returns : tie.Need-returns-then-next-eq0
returns c =
    let s : tie.After-letters = search in
    let a : tie.After-add_u32-next = search in
    s.letters.ensures ∙ ap (λ (n : ℕ). letters_of 7 (n / 16)) a.add_u32-next.ensures

returns-2 : tie.Need-returns
returns-2 c =
    let begin : tie.Start = search in
    let a : tie.After-add_u32-next = search in
    begin.requires ∙ ap (letters_of 7) (same_sixteen begin.args.n (omega arith) (λ e. c.if-next-eq0.false (ap (λ (n : ℕ). n % 16) a.add_u32-next.ensures ∙ e)))

pub next_head_spec : {M : Type 1} → statement M
next_head_spec = tie.close (tie.spec (λ c κs. search rules) (λ c. search rules) (λ c κs. search rules) returns returns-2)
