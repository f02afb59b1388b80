-- No section is `-`; otherwise the digits.
use native.Mathlib.Omega.{arith}
use mathlib.Core.List.{[], ◌∷◌}
use Rattle.text.proofs.Putting.{written, wrote-length}
use Rattle.store_write.proofs.Putting.{dash_field, hexes_field}
use Rattle.store_write.proofs.writing.put_nibbles.Goals as goal

pub returns-then-k-eq0 : goal.returns-then-k-eq0
returns-then-k-eq0 c =
    let a = c.args in
    dash_field a.out.now a.at a.k a.m _ _ c.if-k-eq0.true c.put_text.ensures

pub put_hexes-requires : goal.put_hexes-requires
put_hexes-requires c =
    let a = c.args in
    let p = c.requires.0 in
    let q = c.requires.1 in
    let w = written a.out.now a.at (9 ∷ []) c.put_byte-next.result _ (omega arith) c.put_byte-next.ensures in
    let n = w.next in
    let l = wrote-length (omega arith) w in
    omega arith

pub returns : goal.returns
returns c =
    let a = c.args in
    hexes_field a.out.now a.at a.k a.m _ _ _ _ c.requires.0 c.requires.1 c.if-k-eq0.false
    c.put_byte-next.ensures c.put_hexes.ensures
