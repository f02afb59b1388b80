-- By its length and what it reads as.
use Rattle.std.proofs.Common.{sym, ap, ◌∙◌, eq-eqb, ne_eqb}
use Rattle.desk.specs.Desks.{readied, line_taken, taken_of}
use Rattle.desk.proofs.desk.take_record.Goals as goal

pub returns-then-bytes-eq1282 : goal.returns-then-bytes-eq1282
unfolding taken_of
returns-then-bytes-eq1282 c =
    c.readied.ensures ∙ ap (readied c.args.d) c.load-loaded.ensures ∙ sym (rw (eq-eqb _ _ c.if-bytes-eq1282.true))

pub returns-in-Is : goal.returns-in-Is
unfolding taken_of
returns-in-Is c =
    c.take_kind.ensures ∙ ap (line_taken c.args.d) c.in-Is.ensures ∙ sym (rw (ne_eqb _ _ c.if-bytes-eq1282.false))

pub returns-in-Bad : goal.returns-in-Bad
unfolding taken_of
returns-in-Bad c = c.refused.ensures ∙ ap (line_taken c.args.d) c.in-Bad.ensures ∙ sym (rw (ne_eqb _ _ c.if-bytes-eq1282.false))
