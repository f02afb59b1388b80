-- A turn leads on to the next: the first takes samples, the second at least one byte.
use mathlib.Core.Path.{◌≡◌, refl, ◌∙◌}
use native.Mathlib.Omega.{arith}
use Prim.Native.Nat.{◌-◌}
use lib.ListN.{length}
use Rattle.playback.proofs.Turning.{progress, turns_then}
use Rattle.playback.specs.Inner.Advances.{Advances}
use Rattle.playback.proofs.Blocks.{turn_same}
use Rattle.playback.proofs.turns.replay_part.Statement.{statement}
use Rattle.playback.proofs.turns.replay_part.Tie as tie

abbrev invariant-loop : tie.invariant-loop-i
invariant-loop input out₀ samples₀ given₀ r₀ i₀ w₀ out samples given r i w = (length out ≡ length out₀)
    × (length samples ≡ length samples₀) × (length given ≡ length given₀) × Advances r₀ input 0 out₀ 0 r i w out

abbrev decreases-loop : tie.decreases-loop-i
decreases-loop input out₀ samples₀ given₀ r₀ i₀ w₀ out samples given r i w = length input - i

loop-holds : tie.Need-loop-i-init invariant-loop decreases-loop
loop-holds c =
    let a = c.before.before.args in (
      refl,
      refl,
      refl,
      turn_same a.first a.input.now a.out.now 0 0
          c.before.before.requires.0 (omega arith) c.before.before.requires.1,
    )

take-samples-requires : tie.Need-take_samples-a-requires invariant-loop decreases-loop
take-samples-requires c κs =
    let turn : tie.At-loop-i invariant-loop decreases-loop = search in
    let begin : tie.Start invariant-loop decreases-loop = search in
    let l = turn.loop-i in
    let t = l.invariant.3 in
    (t.small, t.high, t.room, omega (arith, l.invariant.1, begin.requires.2), omega (arith, l.invariant.2, begin.requires.3))

take-bytes-requires : tie.Need-take_bytes-b-requires invariant-loop decreases-loop
take-bytes-requires c κs =
    let at-take-samples : tie.After-take_samples-a invariant-loop decreases-loop = search in
    let t = at-take-samples.take_samples-a.ensures in (t.small, t.high, t.room)

loop-less : tie.Need-loop-i-smaller invariant-loop decreases-loop
loop-less c =
    let at-take-samples : tie.After-take_samples-a invariant-loop decreases-loop = search in
    let in-loop : tie.In-loop-i invariant-loop decreases-loop = search in
    let turn : tie.At-loop-i invariant-loop decreases-loop = search in
    let begin : tie.Start invariant-loop decreases-loop = search in
    let s = at-take-samples.take_samples-a in
    let b = c.before.before.before.take_bytes-b in
    progress (length begin.args.input.now) turn.loop-i.i s.result.next b.result.next in-loop.loop-i-test.true
    s.ensures.low b.ensures.0.low b.ensures.0.high b.ensures.1

loop-again : tie.Need-loop-i-preserved invariant-loop decreases-loop
loop-again c =
    let at-take-samples : tie.After-take_samples-a invariant-loop decreases-loop = search in
    let turn : tie.At-loop-i invariant-loop decreases-loop = search in
    let l = turn.loop-i in
    let s = at-take-samples.take_samples-a in
    let b = c.before.before.before.take_bytes-b in (
      b.auto.out ∙ s.auto.out ∙ l.invariant.0,
      s.auto.samples ∙ l.invariant.1,
      s.auto.given ∙ l.invariant.2,
      turns_then (omega arith) l.invariant.3 (turns_then l.invariant.3.room.within s.ensures b.ensures.0),
    )

same_length : tie.Need-shape_of-out invariant-loop decreases-loop
same_length c = c.before.loop-i.invariant.0

same-length-2 : tie.Need-shape_of-samples invariant-loop decreases-loop
same-length-2 c = c.before.loop-i.invariant.1

same-length-3 : tie.Need-shape_of-given invariant-loop decreases-loop
same-length-3 c = c.before.loop-i.invariant.2

returns : tie.Need-returns invariant-loop decreases-loop
returns c = let l = c.before.loop-i in (l.invariant.3, omega (arith, l.invariant.3.high, c.loop-i-test.false))

pub replay_part_spec : {M : Type 1} → statement M
replay_part_spec =
    tie.close (tie.spec invariant-loop decreases-loop loop-holds take-samples-requires take-bytes-requires loop-less loop-again
    same_length same-length-2 same-length-3 returns)
