-- Each run goes on behind the last, until the words are at an end.
use Rattle.std.proofs.Common.{◌-◌, ◌≤◌}
use Rattle.clock_stage.proofs.main.Given as goal

abbrev pub invariant-loop-at : goal.invariant-loop-at
invariant-loop-at l = l.words ≤ 200000

abbrev pub decreases-loop-at : goal.decreases-loop-at
decreases-loop-at l = l.words - l.at
