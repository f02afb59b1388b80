use Rattle.std.proofs.Common.{◌≡◌, ◌≤◌, ◌∙◌, refl}
use Rattle.std.proofs.lemmas.Result.{err_from_is_err_and}
use Rattle.std.specs.Prelude.{Result, Err}
use Rattle.blocks.specs.declared.refusal.Refusal.{Refusal}
use Rattle.blocks.specs.Refusals.{answer, refusal_at}
use Rattle.blocks.proofs.Refusals.{taken_number}
use Rattle.dsm.specs.Calls.{order_number, cells_number}
use Rattle.dsm.proofs.Refusals.{order-none, then_cells, block_order, block_unlike, block_cells}
use Rattle.blocks.proofs.Ways.{never}
use Rattle.dsm.proofs.Ways.{block_refused, block_done}
use Rattle.dsm.proofs.Dsm.block.Goals as goal

pub returns-in_err-order_fits : goal.returns-in_err-order_fits
returns-in_err-order_fits c =
    let p = err_from_is_err_and c.from_residual.result c.from_residual.ensures.1 in
    let s = c.args.self.now in let e = c.in_err-order_fits.ensures in
    rw (p.1, p.2)
    (block_refused (order_number s.order) tt _ e s c.args.xs.now c.args.ys.now
    (block_order s c.args.xs.now c.args.ys.now (never (order_number s.order) tt _ e)))

pub returns-then-xs-ys : goal.returns-then-xs-ys
unfolding answer refusal_at
returns-then-xs-ys c =
    let s = c.args.self.now in
    let h : s.order ≤ 8 = order-none s.order (taken_number (order_number s.order) tt _ c.in_ok-order_fits.ensures) in
    let e : ◌≡◌ {A = Result (Unit {0}) Refusal} (Err Refusal.Lengths) (answer 31 tt) = refl in
    block_refused 31 tt Refusal.Lengths e s c.args.xs.now c.args.ys.now (block_unlike s c.args.xs.now c.args.ys.now h c.if-xs-ys.true)

pub returns-in_err-cells_fit : goal.returns-in_err-cells_fit
returns-in_err-cells_fit c =
    let p = err_from_is_err_and c.from_residual-in_err-cells_fit.result c.from_residual-in_err-cells_fit.ensures.1 in
    let s = c.args.self.now in
    let h = order-none s.order (taken_number (order_number s.order) tt _ c.in_ok-order_fits.ensures) in
    rw (p.1, p.2)
    (block_refused (cells_number s) tt _ c.in_err-cells_fit.ensures s c.args.xs.now c.args.ys.now
    (block_cells s c.args.xs.now c.args.ys.now h c.if-xs-ys.false))

pub run_by_order-requires : goal.run_by_order-requires
run_by_order-requires c =
    let s = c.args.self.now in
    let h = order-none s.order (taken_number (order_number s.order) tt _ c.in_ok-order_fits.ensures) in
    (then_cells s h ∙ taken_number (cells_number s) tt _ c.in_ok-cells_fit.ensures, c.if-xs-ys.false)

pub returns : goal.returns
returns c =
    let s = c.args.self.now in let xs = c.args.xs.now in let ys = c.args.ys.now in
    let h = order-none s.order (taken_number (order_number s.order) tt _ c.in_ok-order_fits.ensures) in
    block_done s xs ys c.run_by_order.new.self c.run_by_order.new.ys
    (block_cells s xs ys h c.if-xs-ys.false ∙ taken_number (cells_number s) tt _ c.in_ok-cells_fit.ensures) c.run_by_order.ensures
