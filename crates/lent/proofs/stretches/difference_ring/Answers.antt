use Rattle.std.proofs.Common.{◌≡◌, ◌<◌, ◌≤◌, ◌+◌, ◌-◌, ◌*◌, length, get_or, take, drop, sym, ap, ◌∙◌, arith}
use Rattle.std.proofs.lemmas.List.{get_or_default}
use Rattle.std.proofs.Math.ListN.{length-set}
use Rattle.sums.proofs.Rings.{stored, less_at_law, stored_row, stored_length, stored_cell, sweep_turn, sweep_end, hand_turn, hand_end}
use Rattle.lent.proofs.stretches.difference_ring.Goals as goal

pub loop-j-init : goal.loop-j-init
loop-j-init g c = let z : c.args.n - 0 ≡ c.args.n = omega arith in (c.told-cells, rw z, rw z)

pub loop-j-preserved : goal.loop-j-preserved
loop-j-preserved g c =
    let a = c.args in let l = c.loop-j in let o = g.W.Word.ops in let r = c.sub-acc in
    let below : l.j < a.n = c.loop-j-test.true in
    let long : a.n * 8 ≤ length l.cells = omega (arith, c.requires.0, l.invariant.0) in
    let p = l.j * 8 + a.at in
    let read = get_or_default l.cells p c.index-cells-p.result o.nil (omega (arith, c.requires, l.invariant.0)) in
    let e : r.result ≡ o.sub l.acc (get_or (take 8 (drop (l.j * 8) l.cells)) a.at o.nil) =
    r.ensures ∙ ap (o.sub l.acc) (read ∙ stored_cell 8 a.at a.n l.j l.cells (omega arith) below long o.nil c.requires.1) in
    let keeps = stored_length 8 a.at a.n l.j l.cells (omega arith) below long l.acc in
    let row = stored_row 8 a.at a.n l.j l.cells (omega arith) below long l.acc c.requires.1 in (
      length-set l.cells p l.acc ∙ l.invariant.0,
      l.invariant.1 ∙ hand_turn (stored a.at) (less_at_law o a.at) a.n l.j l.acc r.result l.cells _ below long keeps row e,
      l.invariant.2 ∙ sweep_turn (stored a.at) (less_at_law o a.at) a.n l.j l.acc r.result l.cells _ below long keeps row e,
    )

pub returns : goal.returns
returns g c =
    let a = c.args in let l = c.loop-j in let f = stored a.at in let h = less_at_law g.W.Word.ops a.at in
    record {
      cells = sym (l.invariant.2 ∙ sweep_end f h a.n l.j l.acc l.cells l.auto.j-end c.loop-j-test.false);
      last = sym (l.invariant.1 ∙ hand_end f h a.n l.j l.acc l.cells l.auto.j-end c.loop-j-test.false);
    }
