use Rattle.std.proofs.Common.{◌≡◌, ◌<◌, ◌≤◌, length, add-one, arith, ◌∙◌}
use lib.ListN.{length-set}
use lib.Seq.{take-suc-set, take_all}
use Rattle.rust_answers.specs.Lines.{words_at}
use Rattle.rust_answers.proofs.lines.line.Goals as goal

pub loop-i-preserved : goal.loop-i-preserved
unfolding words_at
loop-i-preserved c =
    let l = c.loop-i in
    let room : l.i < length l.words = omega (arith, l.invariant.long) in
    record { long = length-set l.words l.i c.word.result ∙ l.invariant.long; made = rw (add-one, take-suc-set, l.invariant.made, c.word.ensures) }

pub returns : goal.returns
returns c =
    let l = c.loop-i in
    let all : l.i ≡ 40 = omega arith in
    let full : length l.words ≤ 40 = omega (arith, l.invariant.long) in
    rw (all, take_all) at l.invariant.made
