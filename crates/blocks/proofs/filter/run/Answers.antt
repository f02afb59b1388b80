use Rattle.std.proofs.Common.{rules, ◌≡◌, ℕ, List, min, length, arith}
use lib.ListN.{take}
use lib.Seq.{length-take-le}
use Rattle.blocks.proofs.Turns.{feeds, fed_on, fed_all, fed_min}
use Rattle.blocks.proofs.filter.run.Goals as goal

-- how many steps there are
taken : {A : Type 0} (n m : ℕ) (xs : List A) → n ≡ min (length xs) m → length (take n xs) ≡ n
taken n m xs e = length-take-le n xs (omega (arith, e))

pub loop-i-init : goal.loop-i-init
loop-i-init g c =
    let a = c.args in
    let e = c.min-count.ensures in
    feeds _ _ _ _ _ (omega (arith, taken c.min-count.result (length a.ys.now) a.xs.now (search rules), e))

pub loop-i-preserved : goal.loop-i-preserved
loop-i-preserved g c =
    rw (c.process.ensures.0, c.process.ensures.1, c.x-item.is)
    (fed_on g.F.Filter.gives g.F.Filter.after c.args.filter.now (take c.min-count.result c.args.xs.now) c.args.ys.now c.loop-i.ys c.loop-i.filter c.loop-i.i
    c.x-item.result c.loop-i-test.true c.loop-i.invariant)

pub returns : goal.returns
returns g c = fed_min _ _ _ _ _ _ _ _ (search rules) (fed_all _ _ _ _ _ _ _ _ c.loop-i-test.false c.loop-i.invariant)
