-- No `dither` so far.
use Rattle.std.proofs.Common.{◌≡◌, drop}
use Rattle.store.specs.Moving.{any_dither_in}
use Rattle.store.proofs.moving.has_dither.Given as goal

abbrev pub invariant-loop-entry : goal.invariant-loop-entry
invariant-loop-entry l = any_dither_in l.entries ≡ any_dither_in (drop l.entry-index l.entries)
