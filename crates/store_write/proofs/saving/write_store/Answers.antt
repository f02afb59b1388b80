-- The list is judged, then the slice.
use Rattle.std.proofs.Common.{arith, ℕ, sym}
use lib.Seq.{length-take-le}
use Rattle.std.proofs.lemmas.Result.{err_from_is_err_and}
use lib.ListN.{length-replicate}
use Rattle.store_write.proofs.Saved.{all_written, bad_list, short_slice, end_most}
use Rattle.store_write.proofs.saving.write_store.Goals as goal

pub returns-in_err-end : goal.returns-in_err-end
returns-in_err-end c =
    let p = err_from_is_err_and c.from_residual.result c.from_residual.ensures.1 in
    rw (p.1, p.2) (bad_list _ _ _ _ _ _ c.in_err-end.ensures)

pub returns-then-out-end : goal.returns-then-out-end
returns-then-out-end c = short_slice _ _ _ _ _ c.in_ok-end.end c.in_ok-end.ensures c.if-out-end.true

pub slice_bounds-buf-end : goal.slice_bounds-buf-end
slice_bounds-buf-end c =
    let m = end_most _ _ c.args.out.now _ _ c.in_ok-end.end c.in_ok-end.ensures in
    let l = length-replicate {A = ℕ} 9030 0 in
    omega (arith, m.0, m.1)

pub slice_bounds-put_bytes-end : goal.slice_bounds-put_bytes-end
slice_bounds-put_bytes-end c =
    let m = end_most _ _ c.args.out.now _ _ c.in_ok-end.end c.in_ok-end.ensures in
    let l = length-replicate {A = ℕ} 9030 0 in
    sym (length-take-le c.in_ok-end.end c.compose.new.out (omega (arith, m.0, m.1)))

pub returns : goal.returns
returns c = all_written _ _ _ _ _ c.in_ok-end.end c.in_ok-end.ensures _ _ c.if-out-end.false c.put_bytes.ensures
