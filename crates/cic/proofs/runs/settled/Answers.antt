use Rattle.std.proofs.Common.{refl, lt-ltb, le-ltb}
use Rattle.sums.specs.Runs.{settled_number}
use Rattle.cic.proofs.runs.settled.Goals as goal

pub returns-then-out-written : goal.returns-then-out-written
unfolding settled_number
returns-then-out-written g c = (refl, simp (lt-ltb _ _ c.if-out-written.true))

pub returns : goal.returns
unfolding settled_number
returns g c = (c.settled_part.ensures, simp (le-ltb _ _ c.if-out-written.false))
