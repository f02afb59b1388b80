-- Each refusal is the rule's own, and a step that is not refused is that of an accepted state.
use Rattle.std.proofs.Common.{rules, ◌≡◌, ℕ, refl, arith}
use Rattle.std.specs.Prelude.{Err, None, Some}
use Rattle.blocks.specs.declared.refusal.Refusal.{Refusal}
use Rattle.blocks.specs.Refusals.{answer, refusal_at}
use Rattle.blocks.proofs.Refusals.{taken_number}
use Rattle.sums.specs.State.{refusal}
use Rattle.sums.proofs.LentSteps.{rise-state, not_due, is_due}
use Rattle.sums.proofs.Rising.{due_number, early_number, missing_number, held_number}
use Rattle.shape.proofs.Ways.{never}
use Rattle.lent.specs.Reading.{counted}
use Rattle.lent.specs.Answers.{sample_of}
use Rattle.lent.proofs.StepCalls.{rise_refuses, rise_takes}
use Rattle.lent.proofs.state.LentCic.interpolate.Goals as goal

pub returns-in_err-check : goal.returns-in_err-check
returns-in_err-check g c =
    let a = c.args in let s = counted a.self.now a.integrators.now a.combs.now in let r = c.in_err-check in
    let e : c.from_residual.result ≡ Err r.field-0.0 = search rules in
    let k = rise-state s.state (refusal s.state) refl (never (refusal s.state) tt r.field-0.0 r.ensures) (sample_of a.sample) in
    rw e (rise_refuses g.W.Word.ops s (sample_of a.sample) tt r.field-0.0 (rw k at r.ensures))

pub returns-then-self-eq0 : goal.returns-then-self-eq0
unfolding answer refusal_at
returns-then-self-eq0 g c =
    let a = c.args in let s = counted a.self.now a.integrators.now a.combs.now in
    let none_given : a.sample ≡ None = c.in_default.is in
    rise_refuses g.W.Word.ops s (sample_of a.sample) {V = ℕ} 0 Refusal.SampleDue
    (rw (none_given, missing_number s.state (taken_number _ _ _ c.in_ok-check.ensures) c.if-self-eq0.true) refl)

pub held-requires : goal.held-requires
held-requires g c = (
  search rules,
  (
    search rules,
    (
      record {
        accepted = taken_number _ _ _ c.in_ok-check.ensures;
        long8 = c.told-integrators;
        long64 = c.told-combs;
      },
      omega (arith, c.if-self-eq0.false),
    ),
  ),
)

pub returns-in_default : goal.returns-in_default
returns-in_default g c =
    let a = c.args in let s = counted a.self.now a.integrators.now a.combs.now in let o = g.W.Word.ops in
    let none_given : a.sample ≡ None = c.in_default.is in
    rise_takes o s (sample_of a.sample)
    (rw none_given (held_number s.state (taken_number _ _ _ c.in_ok-check.ensures) (omega (arith, c.if-self-eq0.false)))) _
    (rw none_given (not_due o s.state.countdown _ (omega (arith, c.if-self-eq0.false)))) _ _ c.held.ensures

pub returns-then-self-gt0 : goal.returns-then-self-gt0
unfolding answer refusal_at
returns-then-self-gt0 g c =
    let a = c.args in let s = counted a.self.now a.integrators.now a.combs.now in let x = c.in-Some.x in
    let some_given : a.sample ≡ Some x = c.in-Some.is in
    rise_refuses g.W.Word.ops s (sample_of a.sample) {V = ℕ} 0 Refusal.SampleNotDue
    (rw (some_given, early_number s.state (taken_number _ _ _ c.in_ok-check.ensures) x c.if-self-gt0.true) refl)

pub taken-requires : goal.taken-requires
taken-requires g c = (
  search rules,
  (
    search rules,
    (
      record {
        accepted = taken_number _ _ _ c.in_ok-check.ensures;
        long8 = c.told-integrators;
        long64 = c.told-combs;
      },
      omega (arith, c.if-self-gt0.false),
    ),
  ),
)

pub returns : goal.returns
returns g c =
    let a = c.args in let s = counted a.self.now a.integrators.now a.combs.now in let o = g.W.Word.ops in let x = c.in-Some.x in
    let some_given : a.sample ≡ Some x = c.in-Some.is in
    rise_takes o s (sample_of a.sample)
    (rw some_given (due_number s.state (taken_number _ _ _ c.in_ok-check.ensures) x (omega (arith, c.if-self-gt0.false)))) _
    (rw some_given (is_due o s.state.countdown x c.if-self-gt0.false)) _ _ c.taken.ensures
