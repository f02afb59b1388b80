-- The bytes of so many samples are put in front as turns were made.
use Rattle.std.proofs.Common.{◌≡◌, take}
use Rattle.text.specs.Writing.{overlaid}
use Rattle.wav.specs.Samples.{data_of}
use Rattle.wav.proofs.samples.write_all.Given as goal

abbrev pub invariant-loop-i : goal.invariant-loop-i
invariant-loop-i l = l.out ≡ overlaid l.initial.out 0 (data_of (take l.i l.samples))
