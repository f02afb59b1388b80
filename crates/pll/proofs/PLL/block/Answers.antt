-- The coefficients are carried beside the state (Carrying).
use Rattle.pll.proofs.Carrying.{carried}
use Rattle.pll.proofs.PLL.block.Goals as goal

pub returns : goal.returns
returns c = let a = c.args in carried a.self a.state.now _ _ _ _ _ c.block-answer.ensures
