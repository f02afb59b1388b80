-- What is left to add decides (Words).
use Rattle.std.proofs.Common.{◌≡◌, ◌≤◌, ◌-◌}
use Rattle.desk.specs.Saved.{check_from, words_at}
use Rattle.desk.proofs.saved.check_of.Given as goal

abbrev pub invariant-loop-i : goal.invariant-loop-i
invariant-loop-i l = (l.i ≤ 79) × (check_from 1 (words_at l.line 0 79) ≡ check_from l.c (words_at l.line l.i (79 - l.i)))
