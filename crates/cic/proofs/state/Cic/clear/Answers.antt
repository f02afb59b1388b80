-- Refused by its number, or zeros.
use Rattle.std.proofs.Common.{rules, ◌≡◌, refl, ne_eqb}
use Rattle.std.specs.Prelude.{Err}
use Rattle.blocks.specs.Refusals.{answer}
use Rattle.blocks.proofs.Refusals.{taken_number}
use Rattle.sums.specs.State.{refusal}
use Rattle.sums.specs.Calls.{clear_state}
use Rattle.shape.proofs.Ways.{never}
use Rattle.cic.specs.Reading.{state_of}
use Rattle.cic.proofs.state.Cic.clear.Goals as goal

pub returns-in_err-check : goal.returns-in_err-check
unfolding clear_state
returns-in_err-check g c =
    let r = c.in_err-check in let e : c.from_residual.result ≡ Err r.field-0.0 = search rules in
    let h = ne_eqb (refusal (state_of c.args.self.now)) 0 (never _ tt r.field-0.0 r.ensures) in (rw h, rw e r.ensures)

pub returns : goal.returns
unfolding clear_state answer
returns g c =
    let z : refusal (state_of c.args.self.now) ≡ 0 = taken_number _ _ _ c.in_ok-check.ensures in
    (rw (c.zeros.ensures, z) refl, rw z refl)
