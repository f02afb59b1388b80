-- Refused by its number; or the integrators' promise, and the combs' where an output is due, put together.
use Rattle.std.proofs.Common.{rules, ◌≡◌, ◌+◌, refl, ◌∙◌, add-one}
use Rattle.std.specs.Prelude.{Err}
use Rattle.blocks.proofs.Refusals.{taken_number, taken_value}
use Rattle.sums.proofs.Refusals.{good}
use Rattle.sums.proofs.Lent.{Ready}
use Rattle.sums.proofs.LentSteps.{waits, gives}
use Rattle.sums.proofs.Numbering.{take_accepts}
use Rattle.lent.specs.Reading.{counted}
use Rattle.lent.proofs.StepCalls.{step_refuses, step_waits, step_gives}
use Rattle.lent.proofs.state.LentCic.decimate.Goals as goal

pub returns-in_err-inputs : goal.returns-in_err-inputs
returns-in_err-inputs g c =
    let a = c.args in let r = c.in_err-inputs in
    let e : c.from_residual.result ≡ Err r.field-0.0 = search rules in
    rw e (step_refuses g.W.Word.ops (counted a.self.now a.integrators.now a.combs.now) a.x (a.self.now.inputs + 1) r.field-0.0
    (rw c.numbers.ensures at r.ensures))

pub integrate-sum-requires : goal.integrate-sum-requires
integrate-sum-requires g c =
    let a = c.args in let s = counted a.self.now a.integrators.now a.combs.now in
    let z = taken_number _ _ _ (rw c.numbers.ensures at c.in_ok-inputs.ensures) in
    (search rules, (good s.state (take_accepts s 1 z)).few)

pub returns-then-self-gt0 : goal.returns-then-self-gt0
returns-then-self-gt0 g c =
    let a = c.args in let s = counted a.self.now a.integrators.now a.combs.now in let i = c.integrate-sum in
    let t = rw c.numbers.ensures at c.in_ok-inputs.ensures in let z = taken_number _ _ _ t in
    let ready : Ready s.state = record { accepted = take_accepts s 1 z; long8 = c.told-integrators; long64 = c.told-combs } in
    step_waits g.W.Word.ops s a.x z _ _ (taken_value _ _ _ t ∙ add-one a.self.now.inputs)
    (waits g.W.Word.ops s.state ready a.x i.new.cells i.result i.ensures c.if-self-gt0.true a.self.now.hold refl)

pub difference-value-requires : goal.difference-value-requires
difference-value-requires g c =
    let a = c.args in let s = counted a.self.now a.integrators.now a.combs.now in
    let z = taken_number _ _ _ (rw c.numbers.ensures at c.in_ok-inputs.ensures) in
    let ok = good s.state (take_accepts s 1 z) in
    (search rules, (ok.few, ok.some, ok.short))

pub returns : goal.returns
returns g c =
    let a = c.args in let s = counted a.self.now a.integrators.now a.combs.now in let i = c.integrate-sum in let d = c.difference-value in
    let t = rw c.numbers.ensures at c.in_ok-inputs.ensures in let z = taken_number _ _ _ t in
    let ready : Ready s.state = record { accepted = take_accepts s 1 z; long8 = c.told-integrators; long64 = c.told-combs } in
    step_gives g.W.Word.ops s a.x z _ _ (taken_value _ _ _ t ∙ add-one a.self.now.inputs) d.result a.self.now.unsettled
    (gives g.W.Word.ops s.state ready a.x i.new.cells i.result i.ensures c.if-self-gt0.false d.result c.saturating_sub-self.result
    d.new.cells d.ensures c.saturating_sub-self.ensures)
