use Rattle.std.proofs.Common.{◌≡◌, drop}
use Rattle.rust_answers.specs.Lines.{unlike_all}
use Rattle.rust_answers.proofs.lines.unlike_words.Given as goal

abbrev pub invariant-loop-i : goal.invariant-loop-i
invariant-loop-i l = unlike_all (drop l.i l.a) (drop l.i l.b) ≡ unlike_all l.a l.b
