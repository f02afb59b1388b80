-- The lines of so many samples are written as turns were made; each is at most 14 bytes, so there is room for the next.
use Rattle.std.proofs.Common.{◌*◌, ◌≤◌, take}
use Rattle.text.specs.Writing.{Wrote}
use Rattle.wav_lines.specs.Lines.{input_lines}
use Rattle.wav_lines.proofs.put_inputs.Given as goal

abbrev pub invariant-loop-x : goal.invariant-loop-x
invariant-loop-x l = (l.at ≤ 14 * l.x-index) × Wrote l.initial.out 0 (input_lines (take l.x-index l.samples)) l.at l.out
