-- A `Cic` read as the rules' state and its number of inputs, and back: field by field.
use Rattle.sums.specs.State.{State}
use Rattle.sums.specs.Counted.{Counted}
use Rattle.shape.specs.declared.numbers.Numbers.{Numbers}
use Rattle.lent.specs.declared.state.LentCic.{LentCic}
use Rattle.cic.specs.declared.state.Cic.{Cic}

module _ {A : Type 0} where
  abbrev pub state_of : Cic A → State A
  state_of s = record {
    order = s.order;
    delay = s.delay;
    rate = s.rate;
    countdown = s.countdown;
    unsettled = s.unsettled;
    hold = s.hold;
    integrators = s.integrators;
    combs = s.combs;
  }

  abbrev pub counted_of : Cic A → Counted A
  counted_of s = record { state = state_of s; inputs = s.inputs }

  abbrev pub cic_of : Counted A → Cic A
  cic_of c = record {
    order = c.state.order;
    delay = c.state.delay;
    rate = c.state.rate;
    countdown = c.state.countdown;
    unsettled = c.state.unsettled;
    inputs = c.inputs;
    hold = c.state.hold;
    integrators = c.state.integrators;
    combs = c.state.combs;
  }

  -- All but the arrays.
  abbrev pub numbers_of : Cic A → LentCic A
  numbers_of s = record {
    order = s.order;
    delay = s.delay;
    rate = s.rate;
    countdown = s.countdown;
    unsettled = s.unsettled;
    inputs = s.inputs;
    hold = s.hold;
  }

  -- The numbers that every question and every call tests.
  abbrev pub shape_of : Cic A → Numbers
  shape_of s = record { order = s.order; delay = s.delay; rate = s.rate; countdown = s.countdown; unsettled = s.unsettled }
