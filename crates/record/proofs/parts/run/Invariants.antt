-- The records that are left are fewer at each turn.
use Rattle.std.proofs.Common.{◌≡◌, length}
use Rattle.record.proofs.parts.run.Given as goal

abbrev pub invariant-loop-records : goal.invariant-loop-records
invariant-loop-records l = (length l.words ≡ 512) × (length l.turns ≡ 512) × (length l.given ≡ 512)

abbrev pub decreases-loop-records : goal.decreases-loop-records
decreases-loop-records l = l.records
