-- No sample is due: the countdown falls, and the integrators run from the hold.
use Rattle.std.proofs.Common.{rules, refl}
use Rattle.sums.proofs.LentSteps.{fit, lifts}
use Rattle.lent.specs.Reading.{counted}
use Rattle.lent.proofs.state.LentCic.held.Goals as goal

pub integrate-requires : goal.integrate-requires
integrate-requires g c =
    let a = c.args in (search rules, (fit (counted a.self.now a.integrators.now a.combs.now).state c.requires.0).good.few)

pub returns : goal.returns
returns g c =
    let a = c.args in let s = (counted a.self.now a.integrators.now a.combs.now).state in let r = c.integrate in let o = g.W.Word.ops in
    let t = lifts o s c.requires.0 o.nil c.requires.1 a.self.now.hold r.result r.new.cells refl r.ensures in
    (rw t.state, t.gives)
