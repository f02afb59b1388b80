use Rattle.std.proofs.Common.{ℤ, ap}
use Rattle.cic.specs.Reading.{cic_of}
use Rattle.cic.specs.declared.state.Cic.{Cic}
use Rattle.recorder.specs.Calls.{rated_of}
use Rattle.recorder.specs.declared.recorder.Recorder.{Recorder}
use Rattle.recorder.proofs.recorder.Recorder.set_rate.Goals as goal

with_filter : Recorder → Cic ℤ → Recorder
with_filter s f = record { plugged = s.plugged; turns = s.turns; filter = f }

pub returns : goal.returns
unfolding rated_of with_filter
returns c = (ap (with_filter c.args.self.now) (ap cic_of c.set_rate.ensures.0), c.set_rate.ensures.1)
