-- The tests of the definition, in turn; then a block of one word (Taking).
use Rattle.std.proofs.Common.{rules, ◌≡◌, sym, ◌∙◌, pos, ◌+ℤ◌, w32, w64, to_z, of_z, get_or, eq-eqb, ne_eqb}
use borrow.Author.Tests.{not-true, not-false}
use mir.ValLaws.{to_z-of_z}
use Rattle.words.specs.Words.{word}
use Rattle.desk.specs.Desks.{so_far, words_taken}
use Rattle.desk.proofs.Taking.{step_is}
use Rattle.desk.proofs.desk.word.Goals as goal

pub returns-then-not-d : goal.returns-then-not-d
unfolding words_taken
returns-then-not-d c = c.refused.ensures ∙ sym (rw (not-true c.args.d.opened c.if-not-d.true))

pub returns-then-number-add_u32 : goal.returns-then-number-add_u32
unfolding words_taken
returns-then-number-add_u32 c =
    let a = c.args in
    c.refused-then-number-add_u32.ensures ∙ sym (rw (
      not-false a.d.opened c.if-not-d.false,
      ne_eqb a.number (word w32 (pos (so_far a.d) +ℤ pos 1)) (rw (c.add_u32.ensures, c.so_far.ensures) at c.if-number-add_u32.true),
    ))

pub returns : goal.returns
unfolding words_taken
returns c =
    let a = c.args in let t = c.take-wrote in let h = rw (to_z-of_z w32 a.x c.ranges.x) at t.ensures in
    let y : to_z w64 (of_z w64 (get_or t.new.out 0 (pos 0))) ≡ get_or t.new.out 0 (pos 0) = search rules in
    step_is a.d a.x t.new.self t.result t.new.out _ c.word_taken.result h.0 h.1 h.3 y c.word_taken.ensures
    ∙ sym (rw (
      not-false a.d.opened c.if-not-d.false,
      eq-eqb a.number (word w32 (pos (so_far a.d) +ℤ pos 1)) (rw (c.add_u32.ensures, c.so_far.ensures) at c.if-number-add_u32.false),
    ))
