-- The struct's cells are those of the chain (InPairs `turn_as`).
use Rattle.std.proofs.Common.{ℤ, get_or, pos, w32, SFits, rules}
use mir.ValLaws.{to_z-of_z}
use Rattle.sections.specs.declared.turns.Turned.{Turned}
use Rattle.sections.specs.Lent.{list_of}
use Rattle.sections.proofs.InPairs.{turn_as}
use Rattle.sections.proofs.runs.eight.Goals as goal

pub loop-i-preserved : goal.loop-i-preserved
loop-i-preserved c =
    let a = c.args in let l = c.loop-i in let t : Turned = c.turn_eight-t.result in let x : ℤ = get_or a.xs.now l.i (pos 0) in
    let f : SFits w32 x = search rules in
    let g : SFits w32 t.y = search rules in
    let e = rw (to_z-of_z w32 x f) at c.turn_eight-t.ensures in
    rw (to_z-of_z w32 t.y g)
    (turn_as 8 a.architecture (list_of a.a) (list_of a.z) (list_of l.cells) (list_of t.cells) a.xs.now l.ys l.i t.y e.0 e.1
    c.loop-i-test.true l.invariant)
