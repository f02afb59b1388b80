-- At w the bound p is 10 to the w, and n has at least w digits.
use Rattle.std.proofs.Common.{◌≡◌, ◌-◌, ◌^◌, ◌<◌, ◌≤◌}
use Rattle.text.proofs.writing.width.Given as goal

abbrev pub invariant-loop-w : goal.invariant-loop-w
invariant-loop-w l = (l.p ≡ 10 ^ l.w) × (1 < l.w → 10 ^ (l.w - 1) ≤ l.n)
