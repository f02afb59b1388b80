-- From the clipped replay on the turns do it, and the tidied one is the place that they reached (Feeding).
use native.Mathlib.Omega.{arith}
use Rattle.playback.proofs.Feeding.{too_short, long_enough, room_for, feed_refused, feed_done}
use Rattle.playback.proofs.driver.Replay.feed.Goals as goal

pub returns-then-short_of : goal.returns-then-short_of
returns-then-short_of c =
    let a = c.args in
    feed_refused a.self.now a.input.now a.out.now (too_short a.input.now a.out.now c.short_of.result
    c.short_of.ensures c.if-short_of.true)

pub replay_part-t-requires : goal.replay_part-t-requires
replay_part-t-requires c =
    let a = c.args in
    let k = c.clipped-first in (
      k.ensures.1,
      room_for a.input.now a.out.now c.short_of.result c.short_of.ensures
          c.if-short_of.false k.result k.ensures.1,
      omega arith,
      omega arith,
    )

pub tidied-requires : goal.tidied-requires
tidied-requires c =
    c.replay_part-t.ensures.0.small

pub returns : goal.returns
returns c =
    let a = c.args in
    let k = c.clipped-first in
    let t = c.replay_part-t in
    feed_done a.self.now a.input.now a.out.now k.result t.result.replay k.ensures.0 t.result.next
    t.result.written t.new.out t.ensures.0 t.ensures.1
    (long_enough a.input.now a.out.now c.short_of.result c.short_of.ensures c.if-short_of.false)
    c.tidied.result c.tidied.ensures
