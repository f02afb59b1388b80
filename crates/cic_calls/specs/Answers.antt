-- An answer read as the number of its refusal, 0 where it was done, and what stands where its value was asked for: the value, or what was
-- there. A decimator's step answers 1 where it gives an output that is told 0, 2 where it gives another, and 0 where it gives none.
use Rattle.std.specs.Prelude.{cond, ℕ, eqb, Result, Ok, Err, Option, Some, None}
use Rattle.std.specs.Result.{result_unwrap_or}
use Rattle.blocks.specs.declared.refusal.Refusal.{Refusal}
use Rattle.blocks.specs.Refusals.{number_of, number_in}
use Rattle.shape.specs.declared.runs.Written.{Written}
use Rattle.lent.specs.declared.steps.Output as declared

abbrev pub out_number : {A : Type 0} → Result (Option (declared.Output A)) Refusal → ℕ
out_number (Ok (Some y)) = cond (eqb y.told 0) 1 2
out_number (Ok None) = 0
out_number (Err r) = number_of r

abbrev pub wrote_number : Result Written Refusal → ℕ
wrote_number a = number_in a

abbrev pub wrote_or : Result Written Refusal → Written → Written
wrote_or a old = result_unwrap_or a old

abbrev pub read_number : Result ℕ Refusal → ℕ
read_number a = number_in a

abbrev pub read_or : Result ℕ Refusal → ℕ → ℕ
read_or a old = result_unwrap_or a old

abbrev pub interpolated_number : {A : Type 0} → Result A Refusal → ℕ
interpolated_number a = number_in a

abbrev pub interpolated_or : {A : Type 0} → Result A Refusal → A → A
interpolated_or a old = result_unwrap_or a old
