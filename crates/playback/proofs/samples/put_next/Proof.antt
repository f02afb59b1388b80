-- By whether the countdown is over. No step is named by the test, so that a wrong one is refused by the fact.
use mathlib.Core.Path.{◌≡◌}
use Prim.Native.Nat.{◌-◌}
use native.Mathlib.Omega.{arith}
use mir.Syntax.{w64}
use mir.ValLaws.{to_z-of_z}
use borrow.Author.Rules.{rules}
use Rattle.text.proofs.Spelling.{spelt-most}
use Rattle.playback.proofs.samples.put_next.Statement.{statement}
use Rattle.playback.proofs.samples.put_next.Tie as tie

put-output-requires : tie.Need-put_output-requires
put-output-requires c κs =
    let begin : tie.Start = search in
    let a = begin.args in
    omega (arith, spelt-most 1 20 (a.told - a.i) (omega (arith, begin.requires.0)), begin.requires.1)

returns-2 : tie.Need-returns
returns-2 c =
    let begin : tie.Start = search in
    let a = begin.args in
    let p = rw (to_z-of_z w64 a.value begin.ranges.value) at c.before.before.put_output.ensures in
    (p.0, omega (arith, p.1, spelt-most 1 20 (a.told - a.i) (omega (arith, begin.requires.0))))

pub put_next_spec : {M : Type 1} → statement M
put_next_spec =
    tie.close (tie.spec (λ c κs. search rules) (λ c. search rules)
    (λ c.
    let begin : tie.Start = search in
    let a = begin.args in
    let z : a.told - a.i ≡ 0 = omega arith in
    let p = rw (to_z-of_z w64 a.value begin.ranges.value) at c.before.before.put_settled.ensures in
    rw z (p.0, omega (arith, p.1)))
    (λ c. search rules) put-output-requires
    (λ c. search rules) returns-2)
