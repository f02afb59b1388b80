-- What a step answers, by its number (0: accepted) and its value. A refused one gives its refusal alone.
use Rattle.std.specs.Prelude.{ℕ, Result, Option, Some, None}
use Rattle.std.proofs.Math.Option.{none, some}
use Rattle.std.proofs.Math.Option as math
use Rattle.blocks.specs.declared.refusal.Refusal.{Refusal}
use Rattle.blocks.specs.Refusals.{answer}
use Rattle.sums.specs.Ops.{Ops}
use Rattle.sums.specs.Calls.{rise_number, rise_given}
use Rattle.sums.specs.Counted.{Counted, Numbered, take_number, take_given}
use Rattle.lent.specs.declared.steps.Output as declared

module _ {A : Type 0} where
  -- The decimator's step: one output with the count it is told and its input's number, or nothing at all.
  abbrev pub answer_output : Numbered A → declared.Output A
  answer_output y = record { value = y.value; told = y.told; number = y.number }

  abbrev pub output_of : math.Option (Numbered A) → Option (declared.Output A)
  output_of none = None
  output_of (some y) = Some (answer_output y)

  abbrev pub out_of : ℕ → math.Option (Numbered A) → Result (Option (declared.Output A)) Refusal
  out_of k y = answer k (output_of y)

  abbrev pub step_out : Ops A → Counted A → A → Result (Option (declared.Output A)) Refusal
  step_out o c x = out_of (take_number c 1) (take_given o c x)

  -- The interpolator's step, with a sample or with none.
  abbrev pub sample_of : Option A → math.Option A
  sample_of (Some x) = some x
  sample_of None = none

  abbrev pub interpolated_of : ℕ → A → Result A Refusal
  interpolated_of k y = answer k y

  abbrev pub rise_out : Ops A → Counted A → math.Option A → Result A Refusal
  rise_out o c x = interpolated_of (rise_number c.state x) (rise_given o c.state x)
