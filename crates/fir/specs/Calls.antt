-- Every call on the engine: its state and its answer. A refused block hands back the given state and writes nothing.
use Rattle.std.specs.Prelude.{cond, List, [], ◌∷◌, ◌++◌, ℕ, zero, suc, ltb, ℤ, pos, length, replicate, Option, None, Some, Result}
use Rattle.blocks.specs.Blocks.{unless}
use Rattle.sums.specs.Runs.{needed, over}
use Rattle.blocks.specs.declared.refusal.Refusal.{Refusal}
use Rattle.blocks.specs.Refusals.{answer}
use Rattle.fir.specs.declared.Fir.{Fir}
use Rattle.fir.specs.Weights.{taken, weighed}

-- The engine starts from zeros, and its first input gives an output.
abbrev pub fresh : Fir
fresh = record { cells = replicate 190 (pos 0); countdown = 0 }

-- The state after a step, and what the step gave.
pub record Stepped : Type 0 where
  pub state : Fir
  pub out : Option ℤ

-- The step, by the inputs that it keeps: at countdown 0 an output comes and the next comes with the 64th input after; above 0 the
-- countdown falls by 1.
unfoldable pub stepped_at : List ℤ → ℕ → Stepped
stepped_at cells zero = record { state = record { cells = cells; countdown = 63 }; out = Some (weighed cells) }
stepped_at cells (suc n) = record { state = record { cells = cells; countdown = n }; out = None }

abbrev pub stepped_of : Fir → ℤ → Stepped
stepped_of s x = stepped_at (taken s.cells x) s.countdown

-- Steps in turn: the outputs, and the state at the end.
abbrev pub output_of : Option ℤ → List ℤ
output_of (Some y) = y ∷ []
output_of None = []

unfoldable pub outputs : Fir → List ℤ → List ℤ
outputs s [] = []
outputs s (x ∷ xs) = output_of (stepped_of s x).out ++ outputs (stepped_of s x).state xs

unfoldable pub after : Fir → List ℤ → Fir
after s [] = s
after s (x ∷ xs) = after (stepped_of s x).state xs

-- A block gives the outputs and the state that its steps in turn would give, and answers how many it wrote. 20: the output slice is
-- shorter than the block needs.
unfoldable pub block_number : Fir → List ℤ → List ℤ → ℕ
block_number s xs out = cond (ltb (length out) (needed (length xs) s.countdown 63)) 20 0

abbrev pub wrote_of : ℕ → ℕ → Result ℕ Refusal
wrote_of k count = answer k count

-- The state after a block, and what it answers.
pub record Decimated : Type 0 where
  pub state : Fir
  pub wrote : Result ℕ Refusal

unfoldable pub decimated_of : Fir → List ℤ → List ℤ → Decimated
decimated_of s xs out = record {
  state = unless (block_number s xs out) s (after s xs);
  wrote = wrote_of (block_number s xs out) (needed (length xs) s.countdown 63);
}

-- What it leaves in the lent slice: the outputs in front, the rest as it was.
unfoldable pub written_of : Fir → List ℤ → List ℤ → List ℤ
written_of s xs out = unless (block_number s xs out) out (over (outputs s xs) out)
