-- What the step's and the block's promises settle, and order 0.
use Rattle.std.specs.Prelude.{◌≡◌, List, ℕ, ℤ, pos, Result}
use Rattle.blocks.specs.declared.refusal.Refusal.{Refusal}
use Rattle.dsm.specs.declared.Dsm.{Dsm}
use Rattle.dsm.specs.Modulator.{modulator_out, next_of}
use Rattle.dsm.specs.Calls.{Steps, Runs}

-- 01, 'Promises that bite': any two results that a promise allows are equal.
abbrev pub StepSettled : Type 0
StepSettled = (s t u : Dsm) (x : ℕ) (q r : Result ℤ Refusal) → Steps s x t q → Steps s x u r → (t ≡ u) × (q ≡ r)

abbrev pub RunSettled : Type 0
RunSettled = (s t u : Dsm) (xs : List ℕ) (ys : List ℤ) (q r : Result (Unit {0}) Refusal) (us vs : List ℤ)
    → Runs s xs ys t q us → Runs s xs ys u r vs → (t ≡ u) × (q ≡ r) × (us ≡ vs)

-- K = 0 gives 0 and leaves the state.
abbrev pub IdleAtZero : Type 0
IdleAtZero = (s : Dsm) (x : ℕ) → s.order ≡ 0 → (modulator_out s x ≡ pos 0) × (next_of s x ≡ s)
