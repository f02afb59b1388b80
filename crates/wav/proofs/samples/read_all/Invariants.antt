-- So many samples are written in front as turns were made.
use Rattle.std.proofs.Common.{◌≡◌}
use lib.Seq.{paste}
use Rattle.wav.specs.Samples.{samples_of}
use Rattle.wav.proofs.samples.read_all.Given as goal

abbrev pub invariant-loop-i : goal.invariant-loop-i
invariant-loop-i l = l.out ≡ paste l.initial.out 0 (samples_of l.bytes) l.i
