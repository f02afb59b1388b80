-- What is left to run, `Filling` of sums Fills, on the state that the rings stand for; a turn is a hold's outputs and a sample.
use Rattle.std.proofs.Common.{ℕ, ◌≡◌, ◌≤◌, ◌-◌, length}
use Rattle.sums.proofs.Fills.{Filling}
use Rattle.sums.proofs.Lent.{Figures, Ring, ringed}
use Rattle.lent.specs.declared.state.LentCic.{LentCic}
use Rattle.lent.specs.Inner.Apart.{apart}
use Rattle.lent.proofs.interpolating.interpolate_stretches.Given as goal

-- the numbers that the block began with, at another countdown and hold
abbrev pub at_hold : {A : Type 0} → LentCic A → ℕ → A → Figures A
at_hold n countdown hold = record {
  order = n.order;
  delay = n.delay;
  rate = n.rate;
  countdown = countdown;
  unsettled = n.unsettled;
  hold = hold;
}

abbrev pub invariant-loop-countdown : goal.invariant-loop-countdown
invariant-loop-countdown g l =
    Filling g.W.Word.ops l.input l.fn.out l.out (apart l.first l.fn.integrators l.fn.combs)
    (ringed (at_hold l.first l.countdown l.hold) l.integrators l.combs l.at) l.k l.i
    × Ring l.n l.at (at_hold l.first l.countdown l.hold) l.combs
    × (length l.integrators ≡ 8) × (l.countdown ≤ 65536)

abbrev pub decreases-loop-countdown : goal.decreases-loop-countdown
decreases-loop-countdown g l = length l.input - l.k
