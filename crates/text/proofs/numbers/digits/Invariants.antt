-- The digits so far gave v, cut at the cap.
use Rattle.std.proofs.Common.{◌≡◌, ◌≤◌, length, drop}
use Rattle.text.specs.Numbers.{cap, capped_size, digits_from}
use Rattle.text.proofs.numbers.digits.Given as goal

abbrev pub invariant-loop-b : goal.invariant-loop-b
invariant-loop-b l =
    (l.b-index ≤ length l.s) × (l.v ≤ cap) × (capped_size (digits_from 0 l.s) ≡ capped_size (digits_from l.v (drop l.b-index l.s)))
