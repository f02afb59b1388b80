-- What the block left, or the caller's filter and the refusal's number.
use Rattle.std.proofs.Common.{refl}
use Rattle.wdf.specs.Calls.{number, answer, next}
use Rattle.capi_filters.proofs.Handed.{sections_told, handed, held}
use Rattle.capi_filters.specs.States.{wdf_at}
use Rattle.capi_filters.proofs.blocks_of.mittenload_wdf.Goals as goal

pub returns-in-Ok : goal.returns-in-Ok
returns-in-Ok c =
    let a = c.args in let w = c.wdf_out.new in
    handed (number (wdf_at a.sections.now a.architecture.now a.a.now a.z.now)) answer next _ (wdf_at w.sections w.architecture w.a w.z)
    c.block.new.self _ _ _ _ _
    (sections_told a.sections.now a.architecture.now) (rw c.wdf_in-state.ensures at c.in-Ok.ensures) c.wdf_out.ensures refl

pub returns-in-Err : goal.returns-in-Err
returns-in-Err c =
    let a = c.args in
    held (number (wdf_at a.sections.now a.architecture.now a.a.now a.z.now)) answer next _ c.block.new.self _ _ _ _ _
    (sections_told a.sections.now a.architecture.now) (rw c.wdf_in-state.ensures at c.in-Err.ensures) c.number.ensures
