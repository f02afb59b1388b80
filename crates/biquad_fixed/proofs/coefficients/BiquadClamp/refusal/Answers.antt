-- The fraction bits' number, else the test of the limits.
use Rattle.std.proofs.Common.{refl, ap, ◌∙◌, ℕ, cond}
use Rattle.std.proofs.lemmas.Result.{err_from_is_err_and}
use lib.Signed.{lt_z}
use Rattle.blocks.specs.Refusals as R
use Rattle.blocks.specs.Refusals.{answer}
use Rattle.blocks.proofs.Refusals.{taken_number}
use Rattle.blocks.proofs.Ways.{kept, never}
use Rattle.biquad_fixed.specs.Answers.{fraction_number}
use Rattle.biquad_fixed.proofs.Wraps.{tested_lt}
use Rattle.biquad_fixed.proofs.coefficients.BiquadClamp.refusal.Goals as goal

pub returns-in_err-fraction : goal.returns-in_err-fraction
returns-in_err-fraction c =
    let p = err_from_is_err_and c.from_residual.result c.from_residual.ensures.1 in
    let a = c.args in let n = fraction_number a.least a.self.coeff in let e = c.in_err-fraction.ensures in
    rw (p.1, p.2) (e ∙ ap (λ (k : ℕ). answer k tt) (kept n n (cond (lt_z a.self.max a.self.min) 41 0) (never n tt _ e)))

pub returns-then-self : goal.returns-then-self
unfolding R.answer R.refusal_at
returns-then-self c =
    let g = c.struct_told-1.given in let a = c.args in
    rw (
      taken_number (fraction_number a.least a.self.coeff) tt _ c.in_ok-fraction.ensures,
      tested_lt a.self.max a.self.min (record { sfits = g.1.1.1.0.1 }) (record { sfits = g.1.1.0.1 }) c.if-self.true,
    )
    refl

pub returns : goal.returns
unfolding R.answer R.refusal_at
returns c =
    let g = c.struct_told-1.given in let a = c.args in
    rw (
      taken_number (fraction_number a.least a.self.coeff) tt _ c.in_ok-fraction.ensures,
      tested_lt a.self.max a.self.min (record { sfits = g.1.1.1.0.1 }) (record { sfits = g.1.1.0.1 }) c.if-self.false,
    )
    refl
