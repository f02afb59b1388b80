use Rattle.std.proofs.Common.{◌≡◌, ◌^◌, min}
use Rattle.shape.specs.Powers.{power_cap}
use Rattle.shape.proofs.powers.power.Given as goal

abbrev pub invariant-loop-i : goal.invariant-loop-i
invariant-loop-i l = l.r ≡ min (l.base ^ l.i) power_cap
