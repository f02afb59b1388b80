-- Refused by its number, or the run on lent arrays.
use Rattle.std.proofs.Common.{rules, ◌≡◌, refl}
use Rattle.std.specs.Prelude.{Err}
use Rattle.blocks.proofs.Refusals.{taken_number}
use Rattle.sums.proofs.Numbering.{fill_accepts}
use Rattle.shape.proofs.Blocks.{fill_refuses, fill-runs}
use Rattle.lent.specs.Reading.{counted}
use Rattle.lent.specs.Inner.Apart.{apart}
use Rattle.lent.proofs.state.LentCic.interpolate_block.Goals as goal

pub returns-in_err-read : goal.returns-in_err-read
returns-in_err-read g c =
    let a = c.args in let s = (counted a.self.now a.integrators.now a.combs.now).state in let r = c.in_err-read in
    let e : c.from_residual.result ≡ Err r.field-0.0 = search rules in
    let t = fill_refuses g.W.Word.ops s a.input.now a.out.now _ r.field-0.0 (rw c.numbers.ensures at r.ensures) in
    rw e (rw (← t.0) refl, t.1, t.2)

pub interpolate_run-r-requires : goal.interpolate_run-r-requires
interpolate_run-r-requires g c =
    let k = fill_accepts _ _ _ (taken_number _ _ _ (rw c.numbers.ensures at c.in_ok-read.ensures)) in
    (search rules, (search rules, (record { accepted = k.0; long8 = c.told-integrators; long64 = c.told-combs }, k.1)))

pub returns : goal.returns
returns g c =
    let a = c.args in let s = (counted a.self.now a.integrators.now a.combs.now).state in let r = c.interpolate_run-r in
    let t = fill-runs g.W.Word.ops s a.input.now a.out.now c.in_ok-read.read (rw c.numbers.ensures at c.in_ok-read.ensures)
    (apart r.result.numbers r.new.integrators r.new.combs) r.result.count r.new.out r.ensures in
    (rw t.0, t.1, t.2)
