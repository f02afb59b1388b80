use Rattle.std.proofs.Common.{◌≡◌, ◌^◌}
use Rattle.sums.specs.Ops.{times}
use Rattle.cic.proofs.settling.scaled.Given as goal

abbrev pub invariant-loop-turn : goal.invariant-loop-turn
invariant-loop-turn g l = l.r ≡ times g.W.Word.ops (l.by ^ l._turn) l.fn.x
