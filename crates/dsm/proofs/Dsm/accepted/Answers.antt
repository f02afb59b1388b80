use Rattle.std.proofs.lemmas.Result.{err_from_is_err_and}
use Rattle.blocks.proofs.Refusals.{taken_number}
use Rattle.dsm.specs.Calls.{order_number}
use Rattle.dsm.proofs.Refusals.{order-none, order_first, then_cells}
use Rattle.blocks.proofs.Ways.{never}
use Rattle.dsm.proofs.Dsm.accepted.Goals as goal

pub returns-in_err-order_fits : goal.returns-in_err-order_fits
returns-in_err-order_fits c =
    let p = err_from_is_err_and c.from_residual.result c.from_residual.ensures.1 in
    let s = c.args.self.now in let e = c.in_err-order_fits.ensures in
    rw (p.1, p.2, order_first s (never (order_number s.order) tt _ e)) e

pub returns : goal.returns
returns c =
    let s = c.args.self.now in
    rw (then_cells s (order-none s.order (taken_number (order_number s.order) tt _ c.in_ok-order_fits.ensures))) c.cells_fit.ensures
