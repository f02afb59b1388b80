-- What a caller gets who calls `decimate` on inputs in turn, by its promise.
use Rattle.std.specs.Prelude.{List, [], ◌∷◌, ◌++◌, Result, Ok, Err, Option, Some, None}
use Rattle.blocks.specs.declared.refusal.Refusal.{Refusal}
use Rattle.sums.specs.Ops.{Ops}
use Rattle.sums.specs.Counted.{Numbered, take_state}
use Rattle.lent.specs.declared.steps.Output as declared
use Rattle.lent.specs.Answers.{step_out}
use Rattle.cic.specs.declared.state.Cic.{Cic}
use Rattle.cic.specs.Reading.{counted_of, cic_of}

-- One call's output, if any,
abbrev pub output_of : {A : Type 0} → Result (Option (declared.Output A)) Refusal → List (Numbered A)
output_of (Ok (Some y)) = record { value = y.value; told = y.told; number = y.number } ∷ []
output_of (Ok None) = []
output_of (Err r) = []

module _ {A : Type 0} (o : Ops A) where
  -- the state after it,
  abbrev pub stepped : Cic A → A → Cic A
  stepped s x = cic_of (take_state o (counted_of s) x)

  -- the state at the end,
  unfoldable pub in_turn : Cic A → List A → Cic A
  in_turn s [] = s
  in_turn s (x ∷ xs) = in_turn (stepped s x) xs

  -- and the outputs with what each tells.
  unfoldable pub outputs_in_turn : Cic A → List A → List (Numbered A)
  outputs_in_turn s [] = []
  outputs_in_turn s (x ∷ xs) = output_of (step_out o (counted_of s) x) ++ outputs_in_turn (stepped s x) xs
