-- Numbers and lent arrays read as the rules' state and its number of inputs.
use Rattle.std.specs.Prelude.{List}
use Rattle.sums.specs.Counted.{Counted}
use Rattle.lent.specs.declared.state.LentCic.{LentCic}

abbrev pub counted : {A : Type 0} → LentCic A → List A → List A → Counted A
counted n integrators combs = record {
  state = record {
    order = n.order;
    delay = n.delay;
    rate = n.rate;
    countdown = n.countdown;
    unsettled = n.unsettled;
    hold = n.hold;
    integrators = integrators;
    combs = combs;
  };
  inputs = n.inputs;
}
