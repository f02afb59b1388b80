-- The number of the sections, then the retired adapters.
use Rattle.std.proofs.Common.{ap, ◌∙◌}
use Rattle.std.proofs.lemmas.Result.{err_from_is_err_and}
use Rattle.blocks.specs.Refusals.{answer, refusal_at}
use Rattle.blocks.proofs.Refusals.{taken_number}
use Rattle.blocks.proofs.Ways.{never, kept}
use Rattle.wdf.specs.Calls.{sections_number, new_number, told}
use Rattle.wdf.proofs.filter.new_refusal.Goals as goal

pub returns-in_err-refusal : goal.returns-in_err-refusal
unfolding new_number
returns-in_err-refusal c =
    let p = err_from_is_err_and c.from_residual.result c.from_residual.ensures.1 in
    let k = sections_number c.args.sections c.args.architecture in
    rw (p.1, p.2) (c.in_err-refusal.ensures ∙ ap told (kept k k _ (never k tt _ c.in_err-refusal.ensures)))

pub returns-then-has_retired : goal.returns-then-has_retired
unfolding new_number answer refusal_at
returns-then-has_retired c =
    let k = sections_number c.args.sections c.args.architecture in
    rw (taken_number k tt _ c.in_ok-refusal.ensures, ← c.has_retired.ensures, c.if-has_retired.true)

pub returns : goal.returns
unfolding new_number answer
returns c =
    let k = sections_number c.args.sections c.args.architecture in
    rw (taken_number k tt _ c.in_ok-refusal.ensures, ← c.has_retired.ensures, c.if-has_retired.false)
