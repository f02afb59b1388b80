-- Those recast so far, and those as they were.
use Rattle.store.proofs.Recasts.{Recasting}
use Rattle.store.proofs.moving.recast_all.Given as goal

abbrev pub invariant-loop-entry : goal.invariant-loop-entry
invariant-loop-entry l = Recasting l.version l.initial.entry-items l.entry-items l.entry-index
