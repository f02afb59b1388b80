use Rattle.sums.specs.State.{zeroed}
use Rattle.cic.proofs.state.Cic.zeros.Goals as goal

pub returns : goal.returns
unfolding zeroed
returns g c = rw (c.zero.ensures, c.nils.ensures, c.nils-2.ensures)
