use Rattle.std.proofs.Common.{sym}
use Rattle.rust_answers.proofs.Alike.{unlike_lengths}
use Rattle.rust_answers.proofs.lines.unlike_words.Goals as goal

pub returns-then-a-b : goal.returns-then-a-b
returns-then-a-b c = sym (unlike_lengths c.args.a.now c.args.b.now c.if-a-b.true)
