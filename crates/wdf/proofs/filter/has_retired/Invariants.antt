-- What the nibbles that are left hold is what all hold (Retired).
use Rattle.std.proofs.Common.{◌≡◌, ◌-◌}
use Rattle.wdf.specs.Calls.{holds_retired}
use Rattle.wdf.proofs.filter.has_retired.Given as goal

abbrev pub invariant-loop : goal.invariant-loop
invariant-loop l = holds_retired (l.sections - l.counter) l.left ≡ holds_retired l.sections l.architecture
