use Rattle.std.proofs.Common.{◌≡◌, drop}
use Rattle.rust_answers.specs.Runs.{digest_all}
use Rattle.rust_answers.proofs.runs.digest_words.Given as goal

abbrev pub invariant-loop-w : goal.invariant-loop-w
invariant-loop-w l = digest_all l.e (drop l.w-index l.words) ≡ digest_all l.d l.words
