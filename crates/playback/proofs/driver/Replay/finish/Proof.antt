-- The front of the slice is written where it has room for the longest answer.
use native.Mathlib.Omega.{arith}
use borrow.Author.Rules.{rules}
use Rattle.playback.specs.Places.{answer_number, finish_bytes, place_of}
use Rattle.playback.proofs.Answering.{refused_20, done, answer-short, answer-fits}
use Rattle.playback.proofs.driver.Replay.finish.Statement.{statement}
use Rattle.playback.proofs.driver.Replay.finish.Tie as tie

returns : tie.Need-returns-then-out-lt44
returns c =
    let a = c.before.before.args in
    refused_20 (answer_number a.out.now) (finish_bytes (place_of a.self)) a.out.now (answer-short a.out.now c.if-out-lt44.true)

put-finish-requires : tie.Need-put_finish-n-requires
put-finish-requires c κs = λ g. omega (arith, c.before.if-out-lt44.false)

returns-2 : tie.Need-returns
returns-2 c =
    let else1 : tie.Else-out-lt44 = search in
    let begin : tie.Start = search in
    let a = begin.args in
    done (answer_number a.out.now) (finish_bytes (place_of a.self)) a.out.now _ _
    (answer-fits a.out.now else1.if-out-lt44.false) c.before.before.put_finish-n.ensures

pub finish_spec : {M : Type 1} → statement M
finish_spec = tie.close (tie.spec returns put-finish-requires (λ c. search rules) returns-2)
