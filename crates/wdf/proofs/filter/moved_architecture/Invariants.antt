-- From the last section down: what is made is what the nibbles from place i on are moved to (Retired).
use Rattle.std.proofs.Common.{◌-◌}
use Rattle.wdf.proofs.Retired.{Moving}
use Rattle.wdf.proofs.filter.moved_architecture.Given as goal

abbrev pub invariant-loop-done : goal.invariant-loop-done
invariant-loop-done l = Moving l.sections l.architecture (l.sections - l.done) l.made
