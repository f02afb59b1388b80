use Rattle.std.proofs.Common.{◌≤◌, ◌^◌, arith}
use lib.Pow.{pow_mono}
use Rattle.dsm.proofs.Chaining.{adds_start, adds_turn, adds_end}
use Rattle.dsm.proofs.accumulate.Goals as goal

pub loop-i-init : goal.loop-i-init
loop-i-init c = adds_start c.args.order c.args.x c.args.a.now (omega arith) (omega arith)

pub overflow_mul-carries : goal.overflow_mul-carries
overflow_mul-carries c = let p : 2 ^ c.loop-i.i ≤ 128 = pow_mono {j = 7} (omega arith) in omega arith

pub loop-i-preserved : goal.loop-i-preserved
loop-i-preserved c =
    let l = c.loop-i in let add = c.overflowing_add-sum in
    adds_turn c.args.order c.args.x c.args.a.now (omega arith) l.a l.value l.carries l.i add.result.0 c.from.result add.result.1
    c.loop-i-test.true (omega arith) l.invariant add.ensures.value add.ensures.overflow c.from.ensures

pub returns : goal.returns
returns c =
    let l = c.loop-i in
    adds_end c.args.order c.args.x c.args.a.now (omega arith) l.a l.value l.carries l.i c.loop-i-test.false l.invariant
