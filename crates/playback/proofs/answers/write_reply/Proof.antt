-- The front of the slice is written where it has room for the longest answer.
use borrow.Author.Rules.{rules}
use Rattle.playback.specs.Places.{reply_bytes, answer_number}
use Rattle.playback.proofs.Answering.{refused_20, done, answer-short, answer-fits}
use Rattle.playback.proofs.answers.write_reply.Statement.{statement}
use Rattle.playback.proofs.answers.write_reply.Tie as tie

returns : tie.Need-returns-then-out-lt44
returns c =
    let a = c.before.before.args in
    refused_20 (answer_number a.out.now) (reply_bytes a.line a.reply) a.out.now (answer-short a.out.now c.if-out-lt44.true)

returns-2 : tie.Need-returns
returns-2 c =
    let else1 : tie.Else-out-lt44 = search in
    let begin : tie.Start = search in
    let a = begin.args in
    done (answer_number a.out.now) (reply_bytes a.line a.reply) a.out.now _ _
    (answer-fits a.out.now else1.if-out-lt44.false) c.before.before.put_reply-n.ensures.0

pub write_reply_spec : {M : Type 1} → statement M
write_reply_spec = tie.close (tie.spec returns (λ c κs. search rules) (λ c. search rules) returns-2)
