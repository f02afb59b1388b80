-- A digit a turn.
use Rattle.store_write.proofs.Putting.{hexing_done, hexing_none, hexing_on}
use Rattle.store_write.proofs.writing.put_hexes.Goals as goal

pub loop-i-init : goal.loop-i-init
loop-i-init c = hexing_none c.args.out.now c.args.at c.args.k c.args.m

pub loop-i-preserved : goal.loop-i-preserved
loop-i-preserved c =
    hexing_on c.args.out.now c.args.at c.args.k c.args.m c.loop-i.out c.loop-i.next c.loop-i.left c.loop-i._i c.requires c.loop-i.invariant
    c.hex_byte.result _ _ c.loop-i-test.true c.hex_byte.ensures c.put_byte-next.ensures

pub returns : goal.returns
returns c =
    hexing_done c.args.out.now c.args.at c.args.k c.args.m c.loop-i.out c.loop-i.next c.loop-i.left c.loop-i._i c.requires c.loop-i.invariant
    c.loop-i-test.false
