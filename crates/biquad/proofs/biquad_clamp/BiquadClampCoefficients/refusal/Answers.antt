use Rattle.std.proofs.Common.{sym, ◌∙◌}
use Rattle.blocks.specs.Refusals.{answer, refusal_at}
use Rattle.biquad.proofs.biquad_clamp.BiquadClampCoefficients.refusal.Goals as goal
use Rattle.biquad.proofs.biquad_clamp.BiquadClampCoefficients.refusal.Goals.{then-self-via-then-self, then-self-via-else-self+then-is_nan, then-self-via-else-self+else-is_nan+then-is_nan-2}

pub returns-then-self : goal.returns-then-self
unfolding answer refusal_at
returns-then-self c = elim c.then-self.branch [
  | then-self-via-then-self w ↦ rw w.if-self.true
  | then-self-via-else-self+then-is_nan w ↦ rw (w.if-self.false, sym w.is_nan.ensures.value ∙ w.if-is_nan.true)
  | then-self-via-else-self+else-is_nan+then-is_nan-2 w ↦ rw (
    w.if-self.false,
    sym w.is_nan.ensures.value ∙ w.if-is_nan.false,
    sym w.is_nan-else-is_nan.ensures.value ∙ w.if-is_nan-2.true,
  )
]

pub returns : goal.returns
unfolding answer
returns c =
    rw (c.if-self.false, sym c.is_nan.ensures.value ∙ c.if-is_nan.false, sym c.is_nan-else-is_nan.ensures.value ∙ c.if-is_nan-2.false)
