-- A filter that its caller keeps and lends field by field.
use Rattle.std.specs.Prelude.{List, ℕ}
use Rattle.shape.specs.declared.runs.Written.{Written}
use Rattle.cic.specs.declared.state.Cic.{Cic}
use Rattle.lent.specs.declared.steps.Output as declared
use Rattle.lent.specs.declared.state.LentCic.{LentCic}

abbrev pub lent : {A : Type 0} → ℕ → ℕ → ℕ → ℕ → ℕ → ℕ → A → List A → List A → Cic A
lent order delay rate countdown unsettled inputs hold integrators combs = record {
  order = order;
  delay = delay;
  rate = rate;
  countdown = countdown;
  unsettled = unsettled;
  inputs = inputs;
  hold = hold;
  integrators = integrators;
  combs = combs;
}

-- All of it but its arrays.
abbrev pub numbers : {A : Type 0} → ℕ → ℕ → ℕ → ℕ → ℕ → ℕ → A → LentCic A
numbers order delay rate countdown unsettled inputs hold = record {
  order = order;
  delay = delay;
  rate = rate;
  countdown = countdown;
  unsettled = unsettled;
  inputs = inputs;
  hold = hold;
}

-- A step's output, and what is lent for a block's answer.
abbrev pub output : {A : Type 0} → A → ℕ → ℕ → declared.Output A
output value told number = record { value = value; told = told; number = number }

abbrev pub written : ℕ → ℕ → ℕ → Written
written count told number = record { count = count; told = told; number = number }
