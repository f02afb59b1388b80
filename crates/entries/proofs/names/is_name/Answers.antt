-- A name's length is tested first; then a byte that is no letter decides, or there is none.
use Rattle.std.proofs.Common.{◌≡◌, ℕ, List, Bool, false, ◌≤◌, length, arith, sym, ◌∙◌}
use Rattle.std.specs.Bool.{◌==◌}
use Rattle.std.proofs.lemmas.Grind.{common_steps}
use borrow.Author.Tests.{eqb-true}
use Rattle.settings_text.proofs.Names.{by_letters, empty_name_law, letter_not, letter_on, letters_all, long-name}
use Rattle.entries.proofs.names.is_name.Goals as goal

some_bytes : (s : List ℕ) (b : Bool) → b ≡ (length s == 0) → b ≡ false → 1 ≤ length s
some_bytes s b e h = grind (arith, common_steps)

pub returns-then-is_empty : goal.returns-then-is_empty
returns-then-is_empty c =
    let z = eqb-true (length c.args.s.now) 0 (sym c.is_empty.ensures ∙ c.if-is_empty.true) in
    empty_name_law c.args.s.now (omega arith)

pub returns-then-s-gt16 : goal.returns-then-s-gt16
returns-then-s-gt16 c = long-name c.args.s.now (some_bytes _ _ c.is_empty.ensures c.if-is_empty.false) c.if-s-gt16.true

pub returns-then-not-is_letter : goal.returns-then-not-is_letter
returns-then-not-is_letter c =
    let s = c.args.s.now in
    sym (by_letters s (some_bytes s _ c.is_empty.ensures c.if-is_empty.false) c.if-s-gt16.false ∙ sym c.loop-b.invariant
    ∙ letter_not s c.loop-b.b-index c.loop-b-test.true (sym c.is_letter.ensures ∙ c.if-not-is_letter.true))

pub loop-b-preserved : goal.loop-b-preserved
loop-b-preserved c =
    letter_on c.args.s.now c.loop-b.b-index c.loop-b-test.true (sym c.is_letter.ensures ∙ c.if-not-is_letter.false) ∙ c.loop-b.invariant

pub returns : goal.returns
returns c =
    let s = c.args.s.now in
    sym (by_letters s (some_bytes s _ c.is_empty.ensures c.if-is_empty.false) c.if-s-gt16.false ∙ sym c.loop-b.invariant
    ∙ letters_all s c.loop-b.b-index c.loop-b-test.false)
