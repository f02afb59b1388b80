use Rattle.desk.specs.Desks.{start_desk}
use Rattle.desk.proofs.desk.Desk.start.Goals as goal

pub returns : goal.returns
unfolding start_desk
returns c = rw c.blank.ensures
