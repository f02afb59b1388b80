-- 02, A6: the engine equals the decimator of order 3, M 1, rate 63, said of the answers that a caller of either holds: a few
-- definitions, then the statements, nothing else. Each is proved in proofs/Equal.antt.
use Rattle.std.specs.Prelude.{◌≡◌, List, [], ◌∷◌, ◌++◌, ℕ, ℤ, take, Result, Ok, Err}
use Rattle.std.specs.Result.{result_unwrap_or}
use Rattle.blocks.specs.declared.refusal.Refusal.{Refusal}
use Rattle.sums.specs.Calls.{new_number}
use Rattle.sums.specs.Runs.{values}
use Rattle.sums.specs.Counted.{Numbered, plain, blank_counted, new_counted}
use Rattle.cic.specs.declared.state.Cic.{Cic}
use Rattle.cic.specs.Reading.{cic_of}
use Rattle.sums.specs.Signed.{signed_ops}
use Rattle.std.specs.Int.{w32}
use Rattle.cic.specs.Answers.{made_of}
use Rattle.demands.specs.Demands.{Decimating}
use Rattle.fir.specs.declared.Fir.{Fir}
use Rattle.fir.specs.Calls.{Stepped, Decimated, fresh, stepped_of, output_of, outputs, after, decimated_of, written_of}

-- What a block took in and gave, by its answer: a refused one nothing. It gave the first of the slice that it leaves, as many as it
-- answers.
abbrev pub took_block : Result ℕ Refusal → List ℤ → List ℤ
took_block (Ok n) us = us
took_block (Err r) us = []

abbrev pub gave_block : Result ℕ Refusal → List ℤ → List ℤ
gave_block (Ok n) left = take n left
gave_block (Err r) left = []

-- The engine's `decimate` and `decimate_block` in any mixture, each answered as its promise says: from the state s they took in xs, gave ys
-- and left t. What the decimator's took in and gave is `Decimating` (demands, specs/Demands).
pub data Called : Fir → List ℤ → List ℤ → Fir → Type 0 where
  none : {s : Fir} → Called s [] [] s
  decimate : {s t : Fir} {xs ys : List ℤ} (x : ℤ) (r : Stepped) → r ≡ stepped_of s x → Called r.state xs ys t
      → Called s (x ∷ xs) (output_of r.out ++ ys) t
  decimate_block : {s t : Fir} {xs ys : List ℤ} (us lent left : List ℤ) (r : Decimated) → r ≡ decimated_of s us lent
      → left ≡ written_of s us lent → Called r.state xs ys t
      → Called s (took_block r.wrote us ++ xs) (gave_block r.wrote left ++ ys) t

-- Whatever the mixture, from whatever state, the outputs and the state after are those of one list of steps.
abbrev pub OneList : Type 0
OneList = (s : Fir) (xs ys : List ℤ) (t : Fir) → Called s xs ys t → (ys ≡ outputs s xs) × (t ≡ after s xs)

-- From `Fir::new` and what `Cic::new(3, 1, 63)` answers, `Cic::blank` where that were refused, by whatever calls both took in xs: their
-- outputs are the same, wrapping included.
abbrev pub SameOutputs : Type 0
SameOutputs =
    (made : Result (Cic ℤ) Refusal) → made ≡ made_of (new_number 3 1 63) (new_counted (signed_ops w32) 3 1 63)
    → (xs ys : List ℤ) (t : Fir) → Called fresh xs ys t
    → (zs : List (Numbered ℤ)) (u : Cic ℤ) → Decimating w32 (result_unwrap_or made (cic_of (blank_counted (signed_ops w32)))) xs zs u
    → ys ≡ values (plain zs)
