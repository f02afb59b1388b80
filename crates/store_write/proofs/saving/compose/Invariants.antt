-- Before each record: what is left to judge, and the lines so far.
use Rattle.std.proofs.Common.{◌*◌}
use Rattle.store_write.specs.Writing.{Ended}
use Rattle.store_write.proofs.Judging.{Judging, lines_to}
use Rattle.store_write.proofs.saving.compose.Given as goal

abbrev pub invariant-loop-i : goal.invariant-loop-i
invariant-loop-i l = record {
  judging : Judging l.version l.settings.entries l.settings.count l.last l.i;
  lines : Ended l.initial.out l.initial.end (lines_to l.settings.entries l.i) (141 * l.i) l.end l.out;
}
