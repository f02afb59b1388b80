-- The sample that is due goes through the combs into the hold.
use Rattle.std.proofs.Common.{rules, refl, arith}
use Rattle.sums.proofs.LentSteps.{fit, takes}
use Rattle.lent.specs.Reading.{counted}
use Rattle.lent.proofs.state.LentCic.taken.Goals as goal

pub difference-self-requires : goal.difference-self-requires
difference-self-requires g c =
    let a = c.args in let ok = (fit (counted a.self.now a.integrators.now a.combs.now).state c.requires.0).good in
    (search rules, (ok.few, ok.some, ok.short))

pub integrate-requires : goal.integrate-requires
integrate-requires g c =
    let a = c.args in (search rules, (fit (counted a.self.now a.integrators.now a.combs.now).state c.requires.0).good.few)

pub returns : goal.returns
returns g c =
    let a = c.args in let s = (counted a.self.now a.integrators.now a.combs.now).state in let d = c.difference-self in let r = c.integrate in
    let t = takes g.W.Word.ops s c.requires.0 a.x (omega (arith, c.requires.1)) d.result r.result r.new.cells d.new.cells d.ensures r.ensures in
    (rw t.state, t.gives)
