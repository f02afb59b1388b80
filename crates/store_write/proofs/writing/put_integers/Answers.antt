-- A coefficient a turn.
use Rattle.std.proofs.Common.{◌≡◌, ◌<◌, ◌^◌, map, length, pos, arith, rules}
use lib.Signed.{mag}
use lib.ListN.{get_or}
use mir.Syntax.{w32}
use mir.Val.{to_z, of_z, hbits}
use Rattle.words.specs.Words.{wrap}
use Rattle.store_write.proofs.Putting.{integers_done, integers_on, no_fields}
use Rattle.entries.proofs.Arrays.{read_wrapped, wrapped_length}
use Rattle.store_write.proofs.writing.put_integers.Goals as goal

pub loop-i-init : goal.loop-i-init
loop-i-init c = no_fields c.args.out.now c.args.at

pub put_integer-next-requires : goal.put_integer-next-requires
put_integer-next-requires c =
    let h = c.loop-i.invariant.high in
    let l = c.loop-i.invariant.long in
    let r = c.requires.0 in
    omega arith

pub loop-i-preserved : goal.loop-i-preserved
loop-i-preserved c =
    let a = c.args.a.now in
    let n : length a ≡ 8 = search rules in
    let r = c.requires.0 in
    let f = c.requires.1 in
    let m : mag (get_or a c.loop-i.i (pos 0)) < 2 ^ hbits w32 = search rules in
    integers_on c.args.out.now c.args.at (map (wrap w32) a) c.loop-i.i c.loop-i.out c.loop-i.next _ _
    (to_z w32 (of_z w32 (get_or a c.loop-i.i (pos 0)))) (omega arith) (omega (arith, wrapped_length a))
    (read_wrapped a c.loop-i.i (omega arith) m) c.loop-i.invariant c.put_integer-next.ensures

pub returns : goal.returns
returns c = integers_done _ _ _ _ _ _ _ (omega arith) c.loop-i.invariant
