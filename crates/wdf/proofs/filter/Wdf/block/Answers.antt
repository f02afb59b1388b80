-- Unlike slices, the filter's refusal, or a run over as many sections (Chains).
use Rattle.std.proofs.Common.{◌≡◌, length, arith, rules}
use Rattle.std.proofs.lemmas.Result.{err_from_is_err_and}
use Rattle.blocks.proofs.Refusals.{taken_number}
use Rattle.blocks.proofs.Ways.{unlike, own}
use Rattle.wdf.specs.Calls.{number, answer, next}
use Rattle.wdf.proofs.Steps.{few, clean}
use Rattle.wdf.proofs.Chains.{ran_as}
use Rattle.wdf.proofs.filter.Wdf.block.Goals as goal

pub returns-then-xs-ys : goal.returns-then-xs-ys
returns-then-xs-ys c =
    let s = c.args.self.now in unlike (number s) answer next s c.args.xs.now c.args.ys.now c.if-xs-ys.true

pub returns-in_err-refusal : goal.returns-in_err-refusal
returns-in_err-refusal c =
    let p = err_from_is_err_and c.from_residual.result c.from_residual.ensures.1 in
    let s = c.args.self.now in
    rw (p.1, p.2) (own (number s) answer next s c.args.xs.now c.args.ys.now tt _ c.if-xs-ys.false c.in_err-refusal.ensures)

pub returns-then-self-le2 : goal.returns-then-self-le2
returns-then-self-le2 c =
    let s = c.args.self.now in let r = c.run_two in
    let k = taken_number (number s) tt _ c.in_ok-refusal.ensures in
    let l : length s.z ≡ 8 = search rules in
    ran_as 2 s.sections s.architecture s.a s.z c.args.xs.now c.args.ys.now r.new.z r.new.ys r.result c.if-self-le2.true (omega arith) k
    (clean s.sections s.architecture k) c.if-xs-ys.false r.ensures

pub returns-else-self-le2 : goal.returns-else-self-le2
returns-else-self-le2 c =
    let s = c.args.self.now in let r = c.run_eight in
    let k = taken_number (number s) tt _ c.in_ok-refusal.ensures in
    let l : length s.z ≡ 8 = search rules in
    ran_as 8 s.sections s.architecture s.a s.z c.args.xs.now c.args.ys.now r.new.z r.new.ys r.result
    (few s.sections s.architecture k) (omega arith) k (clean s.sections s.architecture k) c.if-xs-ys.false r.ensures
