use Rattle.std.proofs.Common.{replicate, pos}
use Rattle.std.proofs.lemmas.Result.{err_from_is_err_and}
use Rattle.blocks.proofs.Refusals.{accepted, refused_too, taken_number}
use Rattle.wdf.specs.Calls.{new_number, filter, made_unless}
use Rattle.wdf.proofs.Making.{made_so}
use Rattle.wdf.proofs.filter.Wdf.new.Goals as goal

pub returns-in_err-new_refusal : goal.returns-in_err-new_refusal
unfolding made_unless
returns-in_err-new_refusal c =
    let p = err_from_is_err_and c.from_residual.result c.from_residual.ensures.1 in
    let a = c.args in let k = new_number a.sections a.architecture in
    made_so k a.sections a.architecture a.a _ (rw (p.1, p.2)
    (refused_too k tt (filter a.sections a.architecture a.a (replicate 8 (pos 0))) _ c.in_err-new_refusal.ensures))

pub returns : goal.returns
unfolding made_unless
returns c =
    let a = c.args in let k = new_number a.sections a.architecture in
    made_so k a.sections a.architecture a.a _ (accepted _ _ (taken_number k tt _ c.in_ok-new_refusal.ensures))
