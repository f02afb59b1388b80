use Rattle.std.proofs.Common.{◌∙◌}
use Rattle.text.proofs.Sameness.{pointwise-same}
use Rattle.text.proofs.comparing.same_bytes.Goals as goal

pub returns : goal.returns
returns c = c.eq.ensures ∙ pointwise-same c.args.a.now c.args.b.now
