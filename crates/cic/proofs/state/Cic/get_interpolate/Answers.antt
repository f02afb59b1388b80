-- The last integrator of a sound state is in its array.
use Rattle.std.proofs.Common.{rules, ◌≡◌, refl, ◌∙◌, arith}
use Rattle.std.specs.Prelude.{Err}
use Rattle.blocks.specs.Refusals.{answer}
use Rattle.blocks.proofs.Refusals.{refused_too, taken_number}
use Rattle.sums.specs.State.{refusal}
use Rattle.sums.specs.Calls.{current_at}
use Rattle.sums.proofs.Refusals.{good}
use Rattle.cic.specs.Reading.{state_of}
use Rattle.cic.proofs.Ways.{current-last}
use Rattle.cic.proofs.state.Cic.get_interpolate.Goals as goal

pub returns-in_err-check : goal.returns-in_err-check
returns-in_err-check g c =
    let r = c.in_err-check in let e : c.from_residual.result ≡ Err r.field-0.0 = search rules in
    rw e (refused_too _ _ _ r.field-0.0 r.ensures)

pub returns-then-self-eq0 : goal.returns-then-self-eq0
unfolding answer current_at
returns-then-self-eq0 g c =
    let z : refusal (state_of c.args.self) ≡ 0 = taken_number _ _ _ c.in_ok-check.ensures in rw (z, c.if-self-eq0.true) refl

pub last-requires : goal.last-requires
last-requires g c =
    let ok = good (state_of c.args.self) (taken_number _ _ _ c.in_ok-check.ensures) in
    (search rules, (omega (arith, c.if-self-eq0.false), ok.few))

pub returns : goal.returns
unfolding answer
returns g c =
    let s = state_of c.args.self in let o = g.W.Word.ops in
    let z : refusal s ≡ 0 = taken_number _ _ _ c.in_ok-check.ensures in
    let last : c.last.result ≡ current_at o s s.order = c.last.ensures ∙ current-last o s s.order (omega (arith, c.if-self-eq0.false)) in
    rw (z, last) refl
