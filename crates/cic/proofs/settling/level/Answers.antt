use Rattle.std.proofs.Common.{◌≡◌, arith, ap, ◌∙◌}
use Rattle.std.specs.Prelude.{slice_set}
use Rattle.sums.proofs.Levels.{level_turn}
use Rattle.cic.proofs.settling.level.Goals as goal

pub loop-i-init : goal.loop-i-init
loop-i-init g c = c.nils-cells.ensures

pub loop-i-preserved : goal.loop-i-preserved
loop-i-preserved g c =
    let l = c.loop-i in let x = c.args.x in
    ap (λ cells. slice_set cells l.i x) l.invariant ∙ level_turn 64 l.i x g.W.Word.ops.nil (omega arith)

pub returns : goal.returns
returns g c = let l = c.loop-i in let e : l.i ≡ c.args.m = omega arith in rw e at l.invariant
