-- A block equals its steps: each with its timestamp or without, and each phase and frequency written.
use Rattle.std.specs.Prelude.{◌≡◌, Bool, cond, List, [], ◌∷◌, ℕ, ℤ, pos, Option, Some, None, Result}
use Rattle.std.specs.Int.{w32}
use Rattle.words.specs.Words.{wrap}
use Rattle.blocks.specs.declared.refusal.Refusal.{Refusal}
use Rattle.blocks.specs.Refusals.{answer}
use Rattle.blocks.specs.Scan.{scan, ends}
use Rattle.blocks.specs.Blocks.{lengths_number, unless}
use Rattle.rpll.specs.declared.RPLL.{RPLL}
use Rattle.rpll.specs.declared.RPLLConfig.{RPLLConfig}
use Rattle.rpll.specs.Loops.{config_number, updated_of}

-- what each step learns: its number is a timestamp where its flag says so
abbrev pub stamp_of : Bool → ℤ → Option ℤ
stamp_of there x = cond there (Some x) None

abbrev pub stamps : List Bool → List ℤ → List (Option ℤ)
stamps [] xs = []
stamps (there ∷ rest) [] = []
stamps (there ∷ rest) (x ∷ xs) = stamp_of there x ∷ stamps rest xs

-- phase and frequency that a step gives, the frequency read as signed
abbrev pub phase_after : RPLLConfig → RPLL → Option ℤ → ℤ
phase_after c s t = (updated_of c s t).y

abbrev pub frequency_after : RPLLConfig → RPLL → Option ℤ → ℤ
frequency_after c s t = wrap w32 (pos (updated_of c s t).f)

-- 01, refusal 31: slices of a one-to-one block differ in length. It comes before the configuration's number.
abbrev pub block_number : RPLLConfig → List Bool → List ℤ → List ℤ → List ℤ → ℕ
block_number c there xs ys fs = lengths_number (lengths_number (lengths_number (config_number c) ys fs) xs ys) there xs

-- The call on state s leaves the state t, answers r and leaves zs and gs in the slices ys and fs that were lent to it.
-- A refused block leaves the state and writes nothing.
pub record LoopBlocked (c : RPLLConfig) (s : RPLL) (there : List Bool) (xs ys fs : List ℤ) (t : RPLL) (r : Result (Unit {0}) Refusal) (zs gs : List ℤ)
    : Type 0 where
  pub verdict : r ≡ answer (block_number c there xs ys fs) tt
  pub state : t ≡ unless (block_number c there xs ys fs) s (ends (phase_after c) (updated_of c) s (stamps there xs))
  pub phases : zs ≡ unless (block_number c there xs ys fs) ys (scan (phase_after c) (updated_of c) s (stamps there xs))
  pub frequencies : gs ≡ unless (block_number c there xs ys fs) fs (scan (frequency_after c) (updated_of c) s (stamps there xs))
