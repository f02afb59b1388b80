use Rattle.std.proofs.Common.{◌≡◌, ℕ, ap, ◌∙◌}
use Rattle.std.specs.Prelude.{Result}
use Rattle.std.specs.Result.{result_unwrap_or}
use Rattle.std.proofs.lemmas.Result.{err_from_is_err_and}
use Rattle.blocks.specs.declared.refusal.Refusal.{Refusal}
use Rattle.blocks.proofs.Refusals.{accepted, refused_too, taken_number, in_place}
use Rattle.dsm.specs.declared.Dsm.{Dsm}
use Rattle.dsm.specs.Calls.{order_number, zeros_of, modulator_of, Makes}
use Rattle.dsm.proofs.Dsm.new.Goals as goal

made : (order : ℕ) (r : Result Dsm Refusal) → r ≡ modulator_of order → Makes order r
made order r e = (e, ap (λ (m : Result Dsm Refusal). result_unwrap_or m (zeros_of 0)) e ∙ in_place (order_number order) (zeros_of order) (zeros_of 0))

pub returns-in_err-order_fits : goal.returns-in_err-order_fits
returns-in_err-order_fits c =
    let p = err_from_is_err_and c.from_residual.result c.from_residual.ensures.1 in
    made c.args.order _ (rw (p.1, p.2) (refused_too (order_number c.args.order) tt (zeros_of c.args.order) _ c.in_err-order_fits.ensures))

pub returns : goal.returns
returns c = made c.args.order _ (accepted _ _ (taken_number (order_number c.args.order) tt _ c.in_ok-order_fits.ensures))
