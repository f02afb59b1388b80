-- Both ends of the output range are reached from zero, at every K.
use Rattle.std.specs.Prelude.{◌≡◌, Bool, true, false, ◌&&◌, ◌||◌, List, [], ◌∷◌, ℕ, zero, suc, ◌+◌, ◌-◌, ◌%◌, ◌^◌, ◌≤◌, ℤ}
use Rattle.std.specs.Int.Signed.{le_z}
use Rattle.dsm.specs.Modulator.{least, greatest}
use Rattle.shaping.specs.Totals.{modulated}

-- whether y is among the numbers
abbrev pub among : ℤ → List ℤ → Bool
among y [] = false
among y (z ∷ zs) = le_z y z && le_z z y || among y zs

-- the backward difference modulo 2 ^ 32, after v
abbrev pub differences : ℕ → List ℕ → List ℕ
differences v [] = []
differences v (w ∷ ws) = ((w + 2 ^ 32 - v) % 2 ^ 32) ∷ differences w ws

-- Inputs under which the last of K accumulators swings between 2 ^ 32 - 2 ^ 20 and 2 ^ 20: each accumulator sums the one before.
abbrev pub swings : ℕ → List ℕ
swings zero = []
swings (suc n) = (2 ^ 32 - 2 ^ 20) ∷ (2 ^ 20) ∷ swings n

abbrev pub swing : ℕ → List ℕ
swing zero = swings 5
swing (suc K) = differences 0 (swing K)

abbrev pub EndsReached : Type 0
EndsReached = (K : ℕ) → 1 ≤ K → K ≤ 8
    → (among (least K) (modulated K (swing K)) ≡ true) × (among (greatest K) (modulated K (swing K)) ≡ true)
