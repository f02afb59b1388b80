-- The tests of the definition, in turn.
use Rattle.std.proofs.Common.{sym, ◌∙◌, eq-eqb, ne_eqb}
use Rattle.desk.specs.Saved.{check_from, word_at, words_at, load_of}
use Rattle.desk.proofs.saved.load.Goals as goal

pub returns-then-line-ne1282 : goal.returns-then-line-ne1282
unfolding load_of
returns-then-line-ne1282 c = sym (rw (ne_eqb _ _ c.if-line-ne1282.true))

pub returns-then-line-ne10 : goal.returns-then-line-ne10
unfolding load_of
returns-then-line-ne10 c = sym (rw (eq-eqb _ _ c.if-line-ne1282.false, ne_eqb _ _ c.if-line-ne10.true))

pub returns-then-any_wrong : goal.returns-then-any_wrong
unfolding load_of
returns-then-any_wrong c =
    sym (rw (eq-eqb _ _ c.if-line-ne1282.false, eq-eqb _ _ c.if-line-ne10.false, sym c.any_wrong.ensures ∙ c.if-any_wrong.true))

pub returns-then-word_at-check_of : goal.returns-then-word_at-check_of
unfolding load_of
returns-then-word_at-check_of c =
    let line = c.args.line.now in
    sym (rw (
      eq-eqb _ _ c.if-line-ne1282.false,
      eq-eqb _ _ c.if-line-ne10.false,
      sym c.any_wrong.ensures ∙ c.if-any_wrong.false,
      ne_eqb (word_at line 79) (check_from 1 (words_at line 0 79)) (rw (c.word_at.ensures, c.check_of.ensures) at c.if-word_at-check_of.true),
    ))

pub returns : goal.returns
unfolding load_of
returns c =
    let line = c.args.line.now in
    c.load_state.ensures
    ∙ sym (rw (
      eq-eqb _ _ c.if-line-ne1282.false,
      eq-eqb _ _ c.if-line-ne10.false,
      sym c.any_wrong.ensures ∙ c.if-any_wrong.false,
      eq-eqb (word_at line 79) (check_from 1 (words_at line 0 79)) (rw (c.word_at.ensures, c.check_of.ensures) at c.if-word_at-check_of.false),
    ))
