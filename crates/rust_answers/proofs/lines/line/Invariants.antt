use Rattle.std.proofs.Common.{◌≡◌, take, length}
use Rattle.rust_answers.specs.Lines.{words_at}
use Rattle.rust_answers.proofs.lines.line.Given as goal

abbrev pub invariant-loop-i : goal.invariant-loop-i
invariant-loop-i l = record { long : length l.words ≡ 40; made : take l.i l.words ≡ words_at l.text l.first l.i }
