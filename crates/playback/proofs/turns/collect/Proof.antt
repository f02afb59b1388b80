-- The bytes so far stand behind the line (Turning).
use Prim.Native.Nat.{◌-◌}
use native.Mathlib.Omega.{arith}
use lib.ListN.{length}
use borrow.Author.Rules.{rules}
use Rattle.playback.proofs.Turning.{Filling, filling_start, filling_on, filled_newline, filled_full, filled_over}
use Rattle.playback.proofs.turns.collect.Statement.{statement}
use Rattle.playback.proofs.turns.collect.Tie as tie

abbrev invariant-loop : tie.invariant-loop-i
invariant-loop line₀ len input from n₀ i₀ line n i = Filling line₀ input len from line n i

abbrev decreases-loop : tie.decreases-loop-i
decreases-loop line₀ len input from n₀ i₀ line n i = length input - i

loop-holds : tie.Need-loop-i-init invariant-loop decreases-loop
loop-holds c = let a = c.args in filling_start a.line.now a.input.now a.len a.from c.requires.0 c.requires.1 c.requires.2

returns : tie.Need-returns-then-b-eq10 invariant-loop decreases-loop
returns c =
    let begin : tie.Start invariant-loop decreases-loop = search in
    let a = begin.args in let l = c.before.before.before.loop-i in
    filled_newline a.line.now a.input.now a.len a.from l.line l.n l.i c.if-b-eq10.true l.invariant

returns-2 : tie.Need-returns-then-n-eq64 invariant-loop decreases-loop
returns-2 c =
    let turn : tie.At-loop-i invariant-loop decreases-loop = search in
    let begin : tie.Start invariant-loop decreases-loop = search in
    let a = begin.args in let l = turn.loop-i in
    filled_full a.line.now a.input.now a.len a.from l.line l.n l.i c.before.if-b-eq10.false c.if-n-eq64.true l.invariant

element-write-line : tie.Need-bounds-line-n invariant-loop decreases-loop
element-write-line c =
    let turn : tie.At-loop-i invariant-loop decreases-loop = search in
    let l = turn.loop-i in omega (arith, l.invariant.small, l.invariant.same_length)

add-n : tie.Need-overflow_add-n invariant-loop decreases-loop
add-n c =
    let turn : tie.At-loop-i invariant-loop decreases-loop = search in
    omega (arith, turn.loop-i.invariant.small)

loop-again : tie.Need-loop-i-preserved invariant-loop decreases-loop
loop-again c =
    let turn : tie.At-loop-i invariant-loop decreases-loop = search in
    let begin : tie.Start invariant-loop decreases-loop = search in
    let a = begin.args in let l = turn.loop-i in
    filling_on a.line.now a.input.now a.len a.from l.line l.n l.i
    c.before.before.before.loop-i-test.true c.before.if-b-eq10.false c.if-n-eq64.false l.invariant

returns-3 : tie.Need-returns invariant-loop decreases-loop
returns-3 c =
    let a = c.before.before.args in let l = c.before.loop-i in
    filled_over a.line.now a.input.now a.len a.from l.line l.n l.i c.loop-i-test.false l.invariant

pub collect_spec : {M : Type 1} → statement M
collect_spec =
    tie.close (tie.spec invariant-loop decreases-loop loop-holds (λ c. search rules) returns returns-2 element-write-line add-n
    (λ c. search rules) (λ c. search rules) loop-again returns-3)
