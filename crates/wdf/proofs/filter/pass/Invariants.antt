-- A chain over the sections: what a section gives back goes to the cell before it (Passes).
use Rattle.wdf.proofs.Passes.{Passing}
use Rattle.wdf.proofs.filter.pass.Given as goal

abbrev pub invariant-loop-i : goal.invariant-loop-i
invariant-loop-i l = Passing l.last l.architecture l.a l.fn.z l.x l.head.0 l.z l.going l.left l.i
