-- The whole input is one part, and then comes the end (Wholes).
use mathlib.Core.Path.{refl, ap}
use native.Mathlib.Omega.{arith}
use Prim.Native.Nat.{◌≤◌}
use borrow.Author.Rules.{rules}
use Rattle.playback.specs.Replays.{replay}
use Rattle.playback.specs.Places.{feed_number, place_of}
use Rattle.playback.proofs.Answering.{refused_20, done}
use Rattle.playback.proofs.Feeding.{too_short, long_enough, room_for, ran_whole}
use Rattle.playback.proofs.driver.replay_whole.Statement.{statement}
use Rattle.playback.proofs.driver.replay_whole.Tie as tie

returns : tie.Need-returns-then-short_of
returns c =
    let begin : tie.Start = search in
    let a = begin.args in
    refused_20 (feed_number a.input.now a.out.now) (replay a.input.now) a.out.now
    (too_short a.input.now a.out.now c.before.short_of.result c.before.short_of.ensures c.if-short_of.true)

replay-part-requires : tie.Need-replay_part-t-requires
replay-part-requires c κs =
    let else1 : tie.Else-short_of = search in
    let at-short-of : tie.After-short_of = search in
    let begin : tie.Start = search in
    let a = begin.args in
    let k = c.before.before.before.start-first in
    let z : k.result.len ≤ 64 = rw k.ensures (omega arith) in (
      z,
      room_for a.input.now a.out.now at-short-of.short_of.result at-short-of.short_of.ensures else1.if-short_of.false
          k.result z,
      omega arith,
      omega arith,
    )

put-finish-requires : tie.Need-put_finish-n-requires
put-finish-requires c κs =
    let at-run : tie.After-replay_part-t = search in
    λ g. omega (arith, at-run.replay_part-t.ensures.0.room.fits g)

returns-2 : tie.Need-returns
returns-2 c =
    let at-run : tie.After-replay_part-t = search in
    let at-start : tie.After-start-first = search in
    let else1 : tie.Else-short_of = search in
    let at-short-of : tie.After-short_of = search in
    let begin : tie.Start = search in
    let a = begin.args in
    let k = at-start.start-first in
    let t = at-run.replay_part-t in
    let f = c.before.before.put_finish-n in
    done (feed_number a.input.now a.out.now) (replay a.input.now) a.out.now f.new.out f.result
    (long_enough a.input.now a.out.now at-short-of.short_of.result at-short-of.short_of.ensures else1.if-short_of.false)
    (ran_whole k.result a.input.now a.out.now k.result t.result.replay refl t.result.next t.result.written
    t.new.out t.ensures.0 t.ensures.1
    (ap place_of k.ensures) (omega arith) f.result f.new.out f.ensures)

pub replay_whole_spec : {M : Type 1} → statement M
replay_whole_spec =
    tie.close (tie.spec (λ c κs. search rules) returns (λ c κs. search rules) (λ c. search rules) (λ c. search rules)
    replay-part-requires put-finish-requires (λ c. search rules) returns-2)
