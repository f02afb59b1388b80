-- Blocks of an accepted state that is taken apart, as the rules read it: its numbers passed, its arrays lent.
use Rattle.std.specs.Prelude.{List, ℕ, Option, Some, None}
use Rattle.std.proofs.Math.Option.{none, some}
use Rattle.std.proofs.Math.Option as math
use Rattle.sums.specs.Machine.{Output}
use Rattle.sums.specs.State.{State}
use Rattle.sums.proofs.Lent as lent
use Rattle.shape.specs.declared.numbers.Numbers.{Numbers}
use Rattle.lent.specs.declared.state.LentCic.{LentCic}

module _ {A : Type 0} where
  -- The numbers that every question and every call tests.
  abbrev pub numbers_in : LentCic A → Numbers
  numbers_in n = record { order = n.order; delay = n.delay; rate = n.rate; countdown = n.countdown; unsettled = n.unsettled }

  abbrev pub figures_of : LentCic A → lent.Figures A
  figures_of n = record {
    order = n.order;
    delay = n.delay;
    rate = n.rate;
    countdown = n.countdown;
    unsettled = n.unsettled;
    hold = n.hold;
  }

  abbrev pub apart : LentCic A → List A → List A → State A
  apart n integrators combs = lent.apart (figures_of n) integrators combs

  abbrev pub ringed : LentCic A → List A → List A → ℕ → State A
  ringed n integrators combs at = lent.ringed (figures_of n) integrators combs at

  -- What a stretch gives, and the unsettled count that it found.
  abbrev pub given_of : Option A → ℕ → math.Option (Output A)
  given_of (Some y) told = some (record { value = y; told = told })
  given_of None told = none
