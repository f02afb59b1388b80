-- 01, 'The decimator and interpolator': what a step does, for words of any kind.
use Rattle.std.specs.Prelude.{List, [], ◌∷◌, ◌++◌, ℕ, zero, suc, ◌-◌, get_or, drop}
use Rattle.std.proofs.Math.Option.{Option, none, some}
use Rattle.sums.specs.Ops.{Ops}

-- A state holds N integrators, N delay lines of M cells, the oldest first, hold, rate, countdown and an unsettled count.
pub record Machine (A : Type 0) : Type 0 where
  pub integrators : List A
  pub lines : List (List A)
  pub hold : A
  pub rate : ℕ
  pub countdown : ℕ
  pub unsettled : ℕ

-- An output, and the unsettled count that it found: 0 where it is settled.
pub record Output (A : Type 0) : Type 0 where
  pub value : A
  pub told : ℕ

-- A delay line drops its oldest cell and stores x last.
unfoldable pub pushed : {A : Type 0} → List A → A → List A
pushed line x = drop 1 line ++ (x ∷ [])

module _ {A : Type 0} (o : Ops A) where
  -- Integrators run in order, each adding its predecessor's new value: the cells,
  unfoldable pub integrated : List A → A → List A
  integrated [] x = []
  integrated (a ∷ rest) x = o.add a x ∷ integrated rest (o.add a x)

  -- and what the last hands on.
  unfoldable pub summed : List A → A → A
  summed [] x = x
  summed (a ∷ rest) x = summed rest (o.add a x)

  -- A comb subtracts its oldest cell.
  unfoldable pub less : List A → A → A
  less line x = o.sub x (get_or line 0 o.nil)

  -- Each comb subtracts its oldest cell, drops it and stores its input last: the lines,
  unfoldable pub combed : List (List A) → A → List (List A)
  combed [] x = []
  combed (line ∷ rest) x = pushed line x ∷ combed rest (less line x)

  -- and what the last hands on.
  unfoldable pub differed : List (List A) → A → A
  differed [] x = x
  differed (line ∷ rest) x = differed rest (less line x)

  -- The decimator's step at countdown n: the integrators run. Above 0 the countdown falls by 1 and nothing comes out.
  -- At 0 it becomes the rate, the combs run, the result is held and given out, and an unsettled count above 0 is lowered by 1.
  unfoldable pub decimated_at : Machine A → A → ℕ → Machine A
  decimated_at s x (suc n) = record {
    integrators = integrated s.integrators x;
    lines = s.lines;
    hold = s.hold;
    rate = s.rate;
    countdown = n;
    unsettled = s.unsettled;
  }
  decimated_at s x zero = record {
    integrators = integrated s.integrators x;
    lines = combed s.lines (summed s.integrators x);
    hold = differed s.lines (summed s.integrators x);
    rate = s.rate;
    countdown = s.rate;
    unsettled = s.unsettled - 1;
  }

  -- An output tells the unsettled count that the step found, before it is lowered.
  unfoldable pub given_at : Machine A → A → ℕ → Option (Output A)
  given_at s x (suc n) = none
  given_at s x zero = some (record { value = differed s.lines (summed s.integrators x); told = s.unsettled })

  unfoldable pub decimated : Machine A → A → Machine A
  decimated s x = decimated_at s x s.countdown

  unfoldable pub given : Machine A → A → Option (Output A)
  given s x = given_at s x s.countdown

  -- The interpolator's step at countdown n: at 0 the sample x goes through the combs into the hold and sets the countdown to the rate;
  -- otherwise x isn't looked at and the countdown falls by 1. Then the integrators run from the hold. The unsettled count stays.
  unfoldable pub interpolated_at : Machine A → A → ℕ → Machine A
  interpolated_at s x zero = record {
    integrators = integrated s.integrators (differed s.lines x);
    lines = combed s.lines x;
    hold = differed s.lines x;
    rate = s.rate;
    countdown = s.rate;
    unsettled = s.unsettled;
  }
  interpolated_at s x (suc n) = record {
    integrators = integrated s.integrators s.hold;
    lines = s.lines;
    hold = s.hold;
    rate = s.rate;
    countdown = n;
    unsettled = s.unsettled;
  }

  -- It gives the last integrator (N = 0: the hold).
  unfoldable pub risen_at : Machine A → A → ℕ → A
  risen_at s x zero = summed s.integrators (differed s.lines x)
  risen_at s x (suc n) = summed s.integrators s.hold

  unfoldable pub interpolated : Machine A → A → Machine A
  interpolated s x = interpolated_at s x s.countdown

  unfoldable pub risen : Machine A → A → A
  risen s x = risen_at s x s.countdown
