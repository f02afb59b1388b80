-- What is left to look at decides (Words).
use Rattle.std.proofs.Common.{◌≡◌, ◌≤◌, ◌-◌}
use Rattle.desk.specs.Saved.{any_wrong}
use Rattle.desk.proofs.saved.any_wrong.Given as goal

abbrev pub invariant-loop-i : goal.invariant-loop-i
invariant-loop-i l = (l.i ≤ 80) × (any_wrong l.line 0 80 ≡ any_wrong l.line l.i (80 - l.i))
