-- The bytes before i were taken (Stepping), each with room for its answer.
use mathlib.Core.Path.{◌≡◌, refl, sym}
use mathlib.Core.Bool.{true}
use Prim.Native.Nat.{◌≤◌, ◌-◌, ◌*◌, ◌+◌}
use native.Mathlib.Omega.{arith}
use lib.ListN.{length, drop}
use borrow.Author.Rules.{rules}
use Rattle.coefficient_lines.proofs.Stepping.{stopped}
use Rattle.coefficients.specs.Places.{standing_of}
use Rattle.coefficients.proofs.Stepping.{Along, along-start, along-byte, part-place, part-given, over-part}
use Rattle.coefficients.proofs.Stepping.{not_on, not_off}
use Rattle.text.proofs.Putting.{wrote-same, nothing}
use Rattle.coefficients.proofs.parts.take_part.Statement.{statement}
use Rattle.coefficients.proofs.parts.take_part.Tie as tie

abbrev invariant-loop : tie.invariant-loop-i
invariant-loop line₀ part out₀ p₀ at₀ i₀ line out p at i =
    (i ≤ length part) × (p.going ≡ true) × (p.len ≤ 64) × (length line ≡ 64) × (at ≤ 12 * i) × (length line ≡ length line₀)
    × (length out ≡ length out₀) × Along (standing_of p₀ line₀) part out₀ (standing_of p line) i at out

abbrev decreases-loop : tie.decreases-loop-i
decreases-loop line₀ part out₀ p₀ at₀ i₀ line out p at i = length part - i

returns : tie.Need-returns-then-not-first invariant-loop decreases-loop
returns c =
    let begin : tie.Start invariant-loop decreases-loop = search in
    let a = begin.args in let h = begin.requires in
    let z = stopped (standing_of a.first a.line.now) a.part.now (not_on a.first.going c.if-not-first.true) in
    (sym z.1, wrote-same (sym z.0) (nothing a.out.now 0), h.0, h.1, omega arith)

loop-holds : tie.Need-loop-i-init invariant-loop decreases-loop
loop-holds c =
    let begin : tie.Start invariant-loop decreases-loop = search in
    let entered : tie.Else-not-first invariant-loop decreases-loop = search in
    let a = begin.args in let h = begin.requires in
    let on = not_off a.first.going entered.if-not-first.false in (
      omega arith,
      on,
      h.0,
      h.1,
      omega arith,
      refl,
      refl,
      along-start (standing_of a.first a.line.now) a.part.now a.out.now,
    )

take-byte-requires : tie.Need-take_byte-t-requires invariant-loop decreases-loop
take-byte-requires c κs =
    let turn : tie.At-loop-i invariant-loop decreases-loop = search in
    let begin : tie.Start invariant-loop decreases-loop = search in
    let test : tie.In-loop-i invariant-loop decreases-loop = search in
    let v = turn.loop-i.invariant in
    (v.2, v.3, omega (arith, begin.requires.2, v.6, v.4))

returns-2 : tie.Need-returns-then-not-next invariant-loop decreases-loop
returns-2 c =
    let turn : tie.At-loop-i invariant-loop decreases-loop = search in
    let begin : tie.Start invariant-loop decreases-loop = search in
    let at_byte : tie.After-take_byte-t invariant-loop decreases-loop = search in
    let test : tie.In-loop-i invariant-loop decreases-loop = search in
    let a = begin.args in let l = turn.loop-i in let v = l.invariant in
    let x = at_byte.take_byte-t in let y = x.ensures in
    let s₀ = standing_of a.first a.line.now in
    let t = standing_of x.result.place x.new.line in
    let g = along-byte s₀ a.part.now a.out.now (standing_of l.p l.line) l.i l.at l.out v.7 t x.result.next
    x.new.out (omega arith) v.1 (omega (arith, begin.requires.2, v.4, y.4)) y.0 y.1 in
    let z = stopped t (drop (l.i + 1) a.part.now) (not_on x.result.place.going c.if-not-next.true) in (
      part-place s₀ a.part.now a.out.now t (l.i + 1) x.result.next x.new.out g z,
      part-given s₀ a.part.now a.out.now t (l.i + 1) x.result.next x.new.out g z,
      y.2,
      y.3,
      omega (arith, begin.requires.2, v.4, y.4, g.same),
    )

loop-again : tie.Need-loop-i-preserved invariant-loop decreases-loop
loop-again c =
    let turn : tie.At-loop-i invariant-loop decreases-loop = search in
    let begin : tie.Start invariant-loop decreases-loop = search in
    let at_byte : tie.After-take_byte-t invariant-loop decreases-loop = search in
    let test : tie.In-loop-i invariant-loop decreases-loop = search in
    let a = begin.args in let l = turn.loop-i in let v = l.invariant in
    let x = at_byte.take_byte-t in let y = x.ensures in
    let s₀ = standing_of a.first a.line.now in
    let t = standing_of x.result.place x.new.line in
    let g = along-byte s₀ a.part.now a.out.now (standing_of l.p l.line) l.i l.at l.out v.7 t x.result.next
    x.new.out (omega arith) v.1 (omega (arith, begin.requires.2, v.4, y.4)) y.0 y.1 in
    let on = not_off x.result.place.going c.if-not-next.false in (
      omega arith,
      on,
      y.2,
      y.3,
      omega (arith, v.4, y.5 on),
      omega (arith, y.3, begin.requires.1),
      g.same,
      g,
    )

returns-3 : tie.Need-returns invariant-loop decreases-loop
returns-3 c =
    let begin : tie.Start invariant-loop decreases-loop = search in
    let a = begin.args in
    let l = c.before.loop-i in let v = l.invariant in
    let s = standing_of l.p l.line in
    let z = over-part s a.part.now l.i (omega arith) in
    let s₀ = standing_of a.first a.line.now in (
      part-place s₀ a.part.now a.out.now s l.i l.at l.out v.7 z,
      part-given s₀ a.part.now a.out.now s l.i l.at l.out v.7 z,
      v.2,
      v.3,
      omega (arith, begin.requires.2, v.6, v.4),
    )

pub take_part_spec : {M : Type 1} → statement M
take_part_spec =
    tie.close (tie.spec invariant-loop decreases-loop returns loop-holds (λ c. search rules) take-byte-requires (λ c. search rules)
    (λ c. search rules) returns-2 (λ c. search rules) (λ c. search rules) loop-again (λ c. search rules) (λ c. search rules) returns-3)
