-- A field ends inside the line (end_high), at a tab or at the line's end.
use Rattle.std.proofs.Common.{arith}
use Rattle.text.proofs.Parting.{end_high}
use Rattle.wav_lines.proofs.Reading.{behind_tab}
use Rattle.wav_lines.proofs.answers.cut.Goals as goal

pub split_at-requires : goal.split_at-requires
split_at-requires c = omega (arith, c.part_end.ensures, end_high 9 c.args.fields.now 0 (omega arith))

pub returns-in-len1-up-clause-rest : goal.returns-in-len1-up-clause-rest
returns-in-len1-up-clause-rest c =
    behind_tab c.args.fields.now c.split_at.result.1.now c.part_end.result c.part_end.ensures c.split_at.ensures.back c.in-len1-up.len_at_least
