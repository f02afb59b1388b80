use Rattle.std.proofs.Common.{w32}
use Rattle.std.proofs.lemmas.Result.{err_from_is_err_and}
use mir.ValLaws.{to_z-of_z}
use Rattle.words.proofs.Reading.{read}
use Rattle.blocks.proofs.Refusals.{taken_number}
use Rattle.wdf.specs.Calls.{number}
use Rattle.wdf.proofs.Steps.{few, refuses, gives}
use Rattle.wdf.proofs.filter.Wdf.process.Goals as goal

pub returns-in_err-refusal : goal.returns-in_err-refusal
returns-in_err-refusal c =
    let p = err_from_is_err_and c.from_residual.result c.from_residual.ensures.1 in
    rw (p.1, p.2) (refuses c.args.self.now c.args.x _ c.in_err-refusal.ensures)

pub pass-requires : goal.pass-requires
pass-requires c =
    let s = c.args.self.now in few s.sections s.architecture (taken_number (number s) tt _ c.in_ok-refusal.ensures)

pub returns : goal.returns
returns c =
    let s = c.args.self.now in
    rw (read w32 c.pass.result c.pass.type_inv, c.pass.ensures.0, c.pass.ensures.1, to_z-of_z w32 c.args.x c.ranges.x)
    (gives s c.args.x (taken_number (number s) tt _ c.in_ok-refusal.ensures))
