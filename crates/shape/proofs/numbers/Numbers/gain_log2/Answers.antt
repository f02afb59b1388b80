use Rattle.shape.proofs.Ways.{passing}
use Rattle.shape.proofs.numbers.Numbers.gain_log2.Goals as goal

pub shift-requires : goal.shift-requires
shift-requires c = let ok = passing c.args.self c.in_ok-check.ensures in (ok.few, ok.some, ok.short, ok.slow)
