use Rattle.blocks.proofs.Turns.{Going}
use Rattle.unwrap.specs.Phases.{grown}
use Rattle.recorder.specs.Calls.{turn_out}
use Rattle.recorder.proofs.recorder.unwrap_words.Given as goal

abbrev pub invariant-loop-i : goal.invariant-loop-i
invariant-loop-i l = Going turn_out grown l.initial.unwrapper l.words l.turns l.unwrapper l.i
