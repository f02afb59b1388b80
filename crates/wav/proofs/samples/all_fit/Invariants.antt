-- The answer so far is that of the samples so far.
use Rattle.std.proofs.Common.{◌≡◌, take}
use Rattle.wav.specs.Samples.{all_in_i16}
use Rattle.wav.proofs.samples.all_fit.Given as goal

abbrev pub invariant-loop-x : goal.invariant-loop-x
invariant-loop-x l = l.good ≡ all_in_i16 (take l.x-index l.samples)
