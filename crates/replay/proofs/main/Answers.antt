-- The buffers have their lengths.
use Rattle.std.proofs.Common.{arith}
use lib.ListN.{length-replicate}
use Rattle.replay.proofs.main.Goals as goal

pub replay_input-requires : goal.replay_input-requires
replay_input-requires c = (simp length-replicate (omega arith), simp length-replicate (omega arith))
