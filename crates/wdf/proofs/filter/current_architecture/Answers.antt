-- Beyond eight sections the word holds no nibble (Retired).
use Rattle.std.proofs.Common.{◌∙◌}
use Rattle.wdf.proofs.Retired.{moved_min}
use Rattle.wdf.proofs.filter.current_architecture.Goals as goal

pub returns : goal.returns
returns c =
    let a = c.args in
    c.moved_architecture.ensures ∙ moved_min a.sections a.architecture c.min.result c.ranges.architecture.fits c.min.ensures
