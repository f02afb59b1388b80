-- The bytes from len to i are zeros.
use mathlib.Core.Path.{◌≡◌, refl}
use mathlib.Core.List.{◌++◌}
use native.Mathlib.Omega.{arith}
use Prim.Native.Nat.{◌≤◌, ◌-◌}
use lib.ListN.{length, take, drop, replicate}
use borrow.Author.Rules.{rules}
use Rattle.playback.proofs.Turning.{pad_start, pad_on, pad_end}
use Rattle.playback.proofs.driver.padded.Statement.{statement}
use Rattle.playback.proofs.driver.padded.Tie as tie

abbrev invariant-loop : tie.invariant-loop-i
invariant-loop len a₀ i₀ a i = (len ≤ i) × (i ≤ 64) × (length a₀ ≡ 64) × (a ≡ take len a₀ ++ (replicate (i - len) 0 ++ drop i a₀))

abbrev decreases-loop : tie.decreases-loop-i
decreases-loop len a₀ i₀ a i = 64 - i

loop-holds : tie.Need-loop-i-init invariant-loop decreases-loop
loop-holds c =
    let w : length c.args.line ≡ 64 = search rules in
    (omega arith, c.requires, w, pad_start c.args.line c.args.len c.args.len (omega arith) w refl)

array-write-a : tie.Need-bounds-a-i invariant-loop decreases-loop
array-write-a c = omega arith

loop-again : tie.Need-loop-i-preserved invariant-loop decreases-loop
loop-again c =
    let a = c.before.before.args in
    let l = c.before.loop-i in (
      omega (arith, l.invariant.0),
      omega arith,
      l.invariant.2,
      pad_on a.line a.len l.i l.invariant.0 l.invariant.2 l.a (omega arith)
          l.invariant.3,
    )

returns : tie.Need-returns invariant-loop decreases-loop
returns c =
    let a = c.before.before.args in
    let l = c.before.loop-i in
    pad_end a.line a.len l.i l.invariant.0 l.invariant.2 l.a (omega (arith, l.invariant.1)) l.invariant.3

pub padded_spec : {M : Type 1} → statement M
padded_spec =
    tie.close (tie.spec invariant-loop decreases-loop loop-holds array-write-a (λ c. search rules) (λ c. search rules) loop-again
    returns)
