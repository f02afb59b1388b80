-- The lines so far are the first k samples (Gathering).
use mathlib.Core.Path.{◌≡◌, refl}
use native.Mathlib.Omega.{arith}
use Prim.Native.Nat.{◌-◌}
use lib.ListN.{length, length-set}
use mir.Syntax.{w64}
use mir.ValLaws.{to_z-of_z}
use borrow.Author.Rules.{rules}
use Rattle.playback.proofs.Gathering.{found_is, gathers_start, gathers_on}
use Rattle.playback.specs.Inner.Advances.{Gathers}
use Rattle.playback.proofs.samples.gather.Statement.{statement}
use Rattle.playback.proofs.samples.gather.Tie as tie

abbrev invariant-loop : tie.invariant-loop-k
invariant-loop wide input from samples₀ k₀ i₀ samples k i = (length samples ≡ length samples₀) × Gathers wide input from samples k i

abbrev decreases-loop : tie.decreases-loop-k
decreases-loop wide input from samples₀ k₀ i₀ samples k i = 512 - k

loop-holds : tie.Need-loop-k-init invariant-loop decreases-loop
loop-holds c = (
  refl,
  gathers_start c.before.args.wide c.before.args.input.now c.before.args.from c.before.args.samples.now
      c.before.requires.0,
)

sample-at-requires : tie.Need-sample_at-found-requires invariant-loop decreases-loop
sample-at-requires c κs = c.before.loop-k.invariant.1.inside

same_length : tie.Need-shape_of-samples-in_default invariant-loop decreases-loop
same_length c =
    let turn : tie.At-loop-k invariant-loop decreases-loop = search in
    turn.loop-k.invariant.0

returns : tie.Need-returns-in_default invariant-loop decreases-loop
returns c =
    let turn : tie.At-loop-k invariant-loop decreases-loop = search in
    turn.loop-k.invariant.1

mul-x : tie.Need-offset_bounds-samples-k invariant-loop decreases-loop
mul-x c =
    let turn : tie.At-loop-k invariant-loop decreases-loop = search in
    omega (arith, turn.loop-k.invariant.1.few)

slice-set-from-x : tie.Need-bounds-samples-k invariant-loop decreases-loop
slice-set-from-x c =
    let turn : tie.At-loop-k invariant-loop decreases-loop = search in
    let begin : tie.Start invariant-loop decreases-loop = search in
    omega (arith, turn.loop-k.invariant.0, begin.requires.1)

loop-again : tie.Need-loop-k-preserved invariant-loop decreases-loop
loop-again c =
    let turn : tie.At-loop-k invariant-loop decreases-loop = search in
    let begin : tie.Start invariant-loop decreases-loop = search in
    let a = begin.args in
    let l = turn.loop-k in
    let arm : tie.In-Sample invariant-loop decreases-loop = search in
    let y = to_z-of_z w64 arm.in-Sample.x (search rules) in (
      simp length-set l.invariant.0,
      rw y (gathers_on a.wide a.input.now a.from l.samples l.k l.i
          arm.in-Sample.next arm.in-Sample.x (omega arith) (omega (arith, l.invariant.0, begin.requires.1))
          l.invariant.1 (found_is _ _ _ _ _ _ c.before.sample_at-found.ensures arm.in-Sample.is)),
    )

same-length-2 : tie.Need-shape_of-samples invariant-loop decreases-loop
same-length-2 c = c.before.loop-k.invariant.0

returns-2 : tie.Need-returns invariant-loop decreases-loop
returns-2 c = c.before.loop-k.invariant.1

pub gather_spec : {M : Type 1} → statement M
gather_spec =
    tie.close (tie.spec invariant-loop decreases-loop loop-holds sample-at-requires (λ c. search rules) (λ c. search rules)
    same_length returns mul-x slice-set-from-x (λ c. search rules) (λ c. search rules) loop-again same-length-2
    returns-2)
