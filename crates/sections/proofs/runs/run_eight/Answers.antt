-- Unlike slices, or the loop's promise (InPairs `ran_blocked`).
use Rattle.blocks.proofs.Ways.{unlike}
use Rattle.sections.specs.Sections.{chain_answer, chain_next}
use Rattle.sections.proofs.InPairs.{ran_blocked}
use Rattle.sections.proofs.runs.run_eight.Goals as goal

pub returns-then-xs-ys : goal.returns-then-xs-ys
returns-then-xs-ys c =
    let a = c.args in
    unlike 0 (chain_answer 8 a.architecture a.a.now) (chain_next 8 a.architecture a.a.now) a.z.now a.xs.now a.ys.now c.if-xs-ys.true

pub returns : goal.returns
returns c =
    let a = c.args in let e = c.eight_of-coefficients in let f = c.eight_of-cells in let r = c.eight-after in let o = c.array_of in
    ran_blocked 8 a.architecture e.result f.result r.result a.a.now a.z.now a.xs.now a.ys.now r.new.ys o.result e.ensures f.ensures o.ensures
    c.if-xs-ys.false r.ensures
