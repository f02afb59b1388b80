-- What was made, or the caller's filter and the refusal's number.
use Rattle.std.proofs.Common.{◌∙◌}
use Rattle.wdf.specs.Calls.{sections_number, made_unless}
use Rattle.capi_filters.proofs.Handed.{sections_told, comes, stays}
use Rattle.capi_filters.proofs.makers.mittenload_wdf_from_form1.Goals as goal

pub returns-in-Ok : goal.returns-in-Ok
unfolding made_unless
returns-in-Ok c =
    let p = comes (sections_number c.args.sections.now c.args.architecture.now) _ _ c.in-Ok.made _ c.in-Ok.ensures.0 c.wdf_out.ensures in record { answer = p.0; filter = p.1 }

pub returns-in-Err : goal.returns-in-Err
unfolding made_unless
returns-in-Err c =
    let p = stays (sections_number c.args.sections.now c.args.architecture.now) _ _ c.in-Err.refusal (sections_told _ _) c.in-Err.ensures.0 in
    record { answer = c.number.ensures ∙ p.0; filter = p.1 }
