-- The lines of the first i outputs are written, and the rest tell one less each (Gathering).
use lib.IntN.{ℤ, pos}
use lib.ListN.{get_or, length, take}
use lib.Seq.{get_or-take, length-take-le}
use mathlib.Core.Path.{◌≡◌, refl, sym, ap, ◌∙◌}
use native.Mathlib.Omega.{arith}
use Prim.Native.Nat.{◌-◌}
use mir.Syntax.{w64}
use borrow.Author.Rules.{rules}
use Rattle.words.specs.Words.{wrap}
use Rattle.words.proofs.Reading.{read}
use Rattle.records.specs.Sessions.{width_of}
use Rattle.playback.proofs.Gathering.{Writing, writing_start, writing_on, writing_done}
use Rattle.playback.proofs.samples.put_outputs.Statement.{statement}
use Rattle.playback.proofs.samples.put_outputs.Tie as tie

abbrev invariant-loop : tie.invariant-loop-i
invariant-loop wide out₀ at given count told w₀ i₀ out w i = (length out ≡ length out₀) × Writing wide out₀ at (take count given) told out w i

abbrev decreases-loop : tie.decreases-loop-i
decreases-loop wide out₀ at given count told w₀ i₀ out w i = count - i

loop-holds : tie.Need-loop-i-init invariant-loop decreases-loop
loop-holds c = (
  refl,
  writing_start c.before.args.wide c.before.args.out.now c.before.args.at (take c.before.args.count
      c.before.args.given.now) c.before.args.told (omega (arith, c.before.requires)),
)

mul-y : tie.Need-offset_bounds-given-i invariant-loop decreases-loop
mul-y c =
    let l = c.before.loop-i.invariant.1 in
    omega (arith, c.before.before.before.requires.1)

shared-slice-copy-out-y : tie.Need-bounds-given-i invariant-loop decreases-loop
shared-slice-copy-out-y c = omega (arith, c.before.before.before.requires.1)

put-next-requires : tie.Need-put_next-w-requires invariant-loop decreases-loop
put-next-requires c κs =
    let begin : tie.Start invariant-loop decreases-loop = search in
    let in-loop : tie.In-loop-i invariant-loop decreases-loop = search in
    let turn : tie.At-loop-i invariant-loop decreases-loop = search in
    let l = turn.loop-i in
    (begin.requires.0, omega (arith, l.invariant.0, l.invariant.1.near, begin.requires.2, in-loop.loop-i-test.true))

loop-again : tie.Need-loop-i-preserved invariant-loop decreases-loop
loop-again c =
    let at_y : tie.After-y-1 invariant-loop decreases-loop = search in
    let at_read : tie.After-read_in-value invariant-loop decreases-loop = search in
    let in-loop : tie.In-loop-i invariant-loop decreases-loop = search in
    let turn : tie.At-loop-i invariant-loop decreases-loop = search in
    let begin : tie.Start invariant-loop decreases-loop = search in
    let a = begin.args in
    let l = turn.loop-i in
    let p = c.before.before.put_next-w in
    let y : ℤ = get_or a.given.now l.i (pos 0) in
    let ys = take a.count a.given.now in
    let n : length ys ≡ a.count = length-take-le a.count a.given.now begin.requires.1 in
    let v = at_read.read_in-value in
    let e = read w64 v.result v.type_inv ∙ v.ensures ∙ ap (wrap (width_of a.wide)) (read w64 y at_y.y-1.given
    ∙ sym (get_or-take a.count a.given.now l.i (pos 0) in-loop.loop-i-test.true)) in (
      p.auto.out ∙ l.invariant.0,
      writing_on a.wide a.out.now a.at ys a.told (omega (arith, begin.requires.2)) l.out p.new.out
          l.w p.result l.i _ (omega (arith, in-loop.loop-i-test.true)) e l.invariant.1 p.ensures.0 p.ensures.1,
    )

same_length : tie.Need-shape_of-out invariant-loop decreases-loop
same_length c = c.before.loop-i.invariant.0

returns : tie.Need-returns invariant-loop decreases-loop
returns c =
    let a = c.before.before.before.args in
    let l = c.before.loop-i in
    let ys = take a.count a.given.now in
    let n : length ys ≡ a.count = length-take-le a.count a.given.now c.before.before.before.requires.1 in (
      writing_done a.wide a.out.now a.at ys a.told (omega (arith, c.before.before.before.requires.2)) l.out l.w l.i
          (omega arith) l.invariant.1,
      omega (arith, l.invariant.1.near, l.invariant.1.small),
    )

pub put_outputs_spec : {M : Type 1} → statement M
put_outputs_spec =
    tie.close (tie.spec invariant-loop decreases-loop loop-holds mul-y shared-slice-copy-out-y (λ c κs. search rules) put-next-requires
    (λ c. search rules)
    (λ c. search rules) loop-again same_length returns)
