use Rattle.std.proofs.Common.{◌≡◌, take}
use Rattle.std.proofs.Math.Seq.{slice}
use Rattle.dsm.specs.Modulator.{inside_from}
use Rattle.dsm.proofs.cells_in_range.Given as goal

abbrev pub invariant-loop-i : goal.invariant-loop-i
invariant-loop-i l = inside_from 0 (take l.i-end l.c) ≡ inside_from l.i (slice l.i l.i-end l.c)
