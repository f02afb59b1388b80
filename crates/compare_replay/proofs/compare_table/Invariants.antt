-- The buffers keep their lengths.
use Rattle.std.proofs.Common.{◌≡◌, length}
use Rattle.compare_replay.proofs.compare_table.Given as goal

abbrev pub invariant-loop : goal.invariant-loop
invariant-loop l = (length l.input ≡ length l.initial.input) × (length l.want ≡ length l.initial.want) × (length l.out ≡ length l.initial.out)
