-- The name, then the tabs, then what the fields give (Reading).
use Rattle.std.proofs.Common.{◌∙◌}
use Rattle.wav_lines.proofs.Reading.{unnamed, misshapen, filled}
use Rattle.wav_lines.proofs.answers.read_line.Goals as goal

pub returns-in_err-name : goal.returns-in_err-name
returns-in_err-name c =
    c.from_residual.ensures ∙ unnamed c.args.line.now c.cut.result.0.now c.cut.result.1.now c.cut.ensures.first c.cut.ensures.rest c.in_err-name.ensures

pub returns-then-not-shaped : goal.returns-then-not-shaped
returns-then-not-shaped c =
    misshapen c.args.line.now c.cut.result.0.now c.cut.result.1.now c.cut.ensures.first c.cut.ensures.rest c.in_ok-name.name c.separators.result c.in_ok-name.ensures
    c.separators.ensures c.if-not-shaped.ensures

pub returns : goal.returns
returns c =
    filled c.args.line.now c.cut.result.0.now c.cut.result.1.now c.cut.ensures.first c.cut.ensures.rest c.in_ok-name.name c.separators.result
    c.in_ok-name.ensures c.separators.ensures c.filled.result c.if-not-shaped.ensures c.filled.ensures
