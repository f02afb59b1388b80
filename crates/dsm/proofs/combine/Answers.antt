use Rattle.std.proofs.Common.{◌≤◌, ◌-◌, ◌^◌, get_or, pos, arith}
use mir.Syntax.{w16}
use mir.Val.{to_z}
use lib.Pow.{pow_mono}
use Rattle.words.proofs.Reading.{read}
use Rattle.dsm.proofs.Ranges.{near-small}
use Rattle.dsm.proofs.Combining.{combining_start, combining_cell, combining_turn, combining_end}
use Rattle.dsm.proofs.combine.Goals as goal

pub loop-j-init : goal.loop-j-init
loop-j-init c =
    rw (read w16 c.bit-y.result c.bit-y.type_inv, c.bit-y.ensures)
    (combining_start (c.args.order - 1) c.args.d c.args.c.now (omega arith) (omega arith) c.requires.2)

pub joined-y-requires : goal.joined-y-requires
joined-y-requires c =
    let l = c.loop-j in
    let p : 2 ^ l.j ≤ 64 = pow_mono {j = 6} (omega arith) in
    let near = combining_cell (c.args.order - 1) c.args.d c.args.c.now (omega arith) (omega arith) l.c l.left (to_z w16 l.y-bits) l.j (omega arith) l.invariant in
    let q = near-small l.j (to_z w16 l.y-bits) (omega arith) l.invariant.meets.here in
    let r = near-small l.j (get_or l.c l.j (pos 0)) (omega arith) near in
    (omega arith, rw (read w16 (get_or l.c l.j (pos 0)) (omega arith)) (omega arith))

pub loop-j-preserved : goal.loop-j-preserved
loop-j-preserved c =
    let l = c.loop-j in
    let near = combining_cell (c.args.order - 1) c.args.d c.args.c.now (omega arith) (omega arith) l.c l.left (to_z w16 l.y-bits) l.j (omega arith) l.invariant in
    let p : 2 ^ l.j ≤ 64 = pow_mono {j = 6} (omega arith) in
    let r = near-small l.j (get_or l.c l.j (pos 0)) (omega arith) near in
    rw (read w16 c.joined-y.result c.joined-y.type_inv, c.joined-y.ensures, read w16 (get_or l.c l.j (pos 0)) (omega arith))
    (combining_turn (c.args.order - 1) c.args.d c.args.c.now (omega arith) (omega arith) l.c l.left (to_z w16 l.y-bits) l.j (omega arith) l.invariant)

pub returns : goal.returns
returns c =
    let l = c.loop-j in
    combining_end c.args.order c.args.d c.args.c.now l.c l.left (to_z w16 l.y-bits) l.j (omega arith) c.requires.1 (omega arith) (omega arith) l.invariant
