-- The place is the rule's, and its answer was written.
use mathlib.Core.Path.{◌≡◌, refl, ap, ◌∙◌}
use borrow.Author.Rules.{rules}
use Rattle.playback.specs.Places.{counted_up}
use Rattle.playback.proofs.Turning.{answered-place}
use Rattle.playback.proofs.turns.answer_line.Statement.{statement}
use Rattle.playback.proofs.turns.answer_line.Tie as tie

returns : tie.Need-returns
returns c =
    let at-put-reply : tie.After-put_reply-written = search in
    let at-raise : tie.After-count_up-number = search in
    let begin : tie.Start = search in
    let a = begin.args in
    let w = at-put-reply.put_reply-written in
    let n : at-raise.count_up-number.result ≡ counted_up a.r.lines 1 = at-raise.count_up-number.ensures in
    record {
      place = answered-place a.r a.t at-raise.count_up-number.result c.before.count_up.result c.goes_on.result n
          (c.before.count_up.ensures ∙ ap (counted_up a.r.outputs) c.before.before.given_by.ensures) c.goes_on.ensures;
      none = refl;
      most = w.ensures.1;
      few = w.ensures.2;
      wrote = rw n at w.ensures.0;
    }

pub answer_line_spec : {M : Type 1} → statement M
answer_line_spec =
    tie.close (tie.spec (λ c κs. search rules) (λ c κs. search rules) (λ c κs. search rules) (λ c κs. search rules)
    (λ c κs. search rules) (λ c. search rules) returns)
