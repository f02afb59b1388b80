-- What was made, or the caller's filter and the refusal's number.
use Rattle.std.proofs.Common.{◌∙◌}
use Rattle.dsm.specs.Calls.{order_number}
use Rattle.capi_filters.proofs.Handed.{order_told, comes, stays}
use Rattle.capi_filters.proofs.makers.mittenload_dsm_new.Goals as goal

pub returns-in-Ok : goal.returns-in-Ok
returns-in-Ok c =
    let p = comes (order_number c.args.n) _ _ c.in-Ok.made _ c.in-Ok.ensures.0 c.dsm_out.ensures in record { answer = p.0; state = p.1 }

pub returns-in-Err : goal.returns-in-Err
returns-in-Err c =
    let p = stays (order_number c.args.n) _ _ c.in-Err.refusal (order_told _) c.in-Err.ensures.0 in
    record { answer = c.number.ensures ∙ p.0; state = p.1 }
