-- Each way out is a part of the slice that the definition takes.
use Rattle.std.proofs.Common.{◌≡◌, ◌-◌, arith, lt-ltb, le-ltb}
use Rattle.sums.specs.Runs.{settled_number, settled_part}
use Rattle.sums.proofs.LentRuns.{window}
use Rattle.cic.proofs.runs.settled_part.Goals as goal

pub returns-then-out-written : goal.returns-then-out-written
unfolding settled_part settled_number
returns-then-out-written g c = simp (lt-ltb _ _ c.if-out-written.true)

pub returns-then-written-told : goal.returns-then-written-told
unfolding settled_part settled_number
returns-then-written-told g c =
    let a = c.args in let none : a.written - a.told ≡ 0 = omega arith in
    let cut = window a.told a.written a.out.now in
    simp (le-ltb _ _ c.if-out-written.false) (rw none at cut)

pub returns : goal.returns
unfolding settled_part settled_number
returns g c = let a = c.args in simp (le-ltb _ _ c.if-out-written.false) (window a.told a.written a.out.now)
