use borrow.Author.Tests.{lt-ltb, le-ltb}
use Rattle.blocks.specs.Refusals.{answer, refusal_at}
use Rattle.dsm.proofs.order_fits.Goals as goal

pub returns-then-order-gt8 : goal.returns-then-order-gt8
unfolding answer refusal_at
returns-then-order-gt8 c = rw (lt-ltb 8 c.args.order c.if-order-gt8.true)

pub returns : goal.returns
unfolding answer
returns c = rw (le-ltb 8 c.args.order c.if-order-gt8.false)
