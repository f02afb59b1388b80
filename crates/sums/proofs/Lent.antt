-- Calls on lent arrays, for words of any kind: the cascade, a step, the stretches of a block with the delay lines as rings, and a block.
use mathlib.Core.Path.{◌≡◌}
use mathlib.Core.List.{List, ◌++◌}
use mathlib.Core.Logic.{◌⊎◌}
use mathlib.Core.Option.{Option}
use Prim.Native.Nat.{ℕ, ◌+◌, ◌-◌, ◌<◌, ◌≤◌}
use lib.ListN.{length, take, drop, replicate}
use lib.Seq.{slice}
use Rattle.sums.specs.Ops.{Ops}
use Rattle.sums.specs.Machine.{Output, pushed, integrated, summed, less, combed, differed}
use Rattle.sums.specs.State.{State, rows, put_rows, refusal}
use Rattle.sums.specs.Calls.{step_state, step_given, rise_state, rise_given}
use Rattle.sums.specs.Runs.{needed, values, over, outputs, after, risings, risen_after}
use Rattle.sums.proofs.Blocks.{Jump}
use Rattle.sums.proofs.Stretches.{ran, tops}
use Rattle.sums.proofs.Fills.{fed}
use Rattle.sums.proofs.Rings.{swept, handed, turned, stored, less_at_law}

-- A state's figures: all of it but its arrays, which are lent beside them.
pub record Figures (A : Type 0) : Type 0 where
  pub order : ℕ
  pub delay : ℕ
  pub rate : ℕ
  pub countdown : ℕ
  pub unsettled : ℕ
  pub hold : A

abbrev pub apart : {A : Type 0} → Figures A → List A → List A → State A
apart n integrators combs = record {
  order = n.order;
  delay = n.delay;
  rate = n.rate;
  countdown = n.countdown;
  unsettled = n.unsettled;
  hold = n.hold;
  integrators = integrators;
  combs = combs;
}

pub record Ready {A : Type 0} (s : State A) : Type 0 where
  pub accepted : refusal s ≡ 0
  pub long8 : length s.integrators ≡ 8
  pub long64 : length s.combs ≡ 64

-- The place after `at` in a ring of M cells.
pub record Follows (at M next : ℕ) : Type 0 where
  pub inside : next < M
  pub is : (next ≡ at + 1) ⊎ ((next ≡ 0) × (at + 1 ≡ M))

-- Lent cells whose lines are rings with their oldest at the place `at`; n is the order once more.
pub record Ring {A : Type 0} (n at : ℕ) (s : Figures A) (combs : List A) : Type 0 where
  pub order : n ≡ s.order
  pub few : n ≤ 8
  pub short : s.delay ≤ 8
  pub inside : at < s.delay
  pub long : length combs ≡ 64

-- The state that they stand for.
abbrev pub ringed : {A : Type 0} → Figures A → List A → List A → ℕ → State A
ringed s integrators combs at = apart s integrators (turned s.delay at s.order combs)

-- The figures after steps that fall short of the next output or sample.
abbrev pub rested : {A : Type 0} → Figures A → ℕ → Figures A
rested s left = record {
  order = s.order;
  delay = s.delay;
  rate = s.rate;
  countdown = s.countdown - left;
  unsettled = s.unsettled;
  hold = s.hold;
}

module _ {A : Type 0} (o : Ops A) where
  -- The first n integrators have run from x; every other cell is kept.
  pub record Integrates (n : ℕ) (l : List A) (x : A) (a : List A) (y : A) : Type 0 where
    pub cells : a ≡ integrated o (take n l) x ++ drop n l
    pub last : y ≡ summed o (take n l) x

  -- The line of M cells at b has run as a comb from x; every other cell is kept.
  pub record Pushes (b M : ℕ) (l : List A) (x : A) (a : List A) (y : A) : Type 0 where
    pub cells : a ≡ take b l ++ (pushed (take M (drop b l)) x ++ drop (b + M) l)
    pub last : y ≡ less o (take M (drop b l)) x

  -- The lines of the first n rows have run as combs from x; every other cell is kept.
  pub record Combs (n M : ℕ) (l : List A) (x : A) (a : List A) (y : A) : Type 0 where
    pub cells : a ≡ put_rows M (combed o (rows M n l) x) l
    pub last : y ≡ differed o (rows M n l) x

  -- The first n combs have run from x, each a store at the place `at` of its row.
  pub record Stores (n at : ℕ) (l : List A) (x : A) (a : List A) (y : A) : Type 0 where
    pub cells : a ≡ swept (stored at) (less_at_law o at) n x l
    pub last : y ≡ handed (less_at_law o at) n x l

  -- The decimator's step of s on x leaves t and gives g.
  pub record DecimateStep (s : State A) (x : A) (t : State A) (g : Option (Output A)) : Type 0 where
    pub state : t ≡ step_state o s x
    pub gives : g ≡ step_given o s x

  -- The interpolator's step of s, with a sample or none, leaves t and gives y.
  pub record InterpolateStep (s : State A) (x : Option A) (t : State A) (y : A) : Type 0 where
    pub state : t ≡ rise_state o s x
    pub gives : y ≡ rise_given o s x

  -- The decimator's steps of s on xs in turn leave t; k outputs stand in front of the slice that was out, which is now left.
  pub record DecimateRun (s : State A) (xs out : List A) (t : State A) (k : ℕ) (left : List A) : Type 0 where
    pub state : t ≡ after o s xs
    pub count : k ≡ needed (length xs) s.countdown s.rate
    pub wrote : left ≡ over (values (outputs o s xs)) out

  -- The interpolator's steps of s in turn, as many as out has elements, leave t and read k of the samples xs; out is now left.
  pub record InterpolateRun (s : State A) (xs out : List A) (t : State A) (k : ℕ) (left : List A) : Type 0 where
    pub state : t ≡ risen_after o s (length out) xs
    pub count : k ≡ needed (length out) s.countdown s.rate
    pub wrote : left ≡ risings o s (length out) xs

  -- From input i and state s to the next output at input j - 1, which is gives.
  pub record DecimateStretch (n : ℕ) (xs : List A) (s : State A) (i : ℕ) (t : Figures A) (integrators combs : List A) (at : ℕ)
      (gives : Option (Output A)) (j : ℕ) : Type 0 where
    pub ring : Ring n at t combs
    pub jump : Jump o xs s i (ringed t integrators combs at) gives j
    pub further : i < j

  pub record DecimateRest (n : ℕ) (xs : List A) (i : ℕ) (s : Figures A) (l : List A) (t : Figures A) (a : List A) : Type 0 where
    pub numbers : t ≡ rested s (length xs - i)
    pub cells : a ≡ ran o n (slice i (length xs) xs) l

  -- The first n integrators have run from x once for each output from..to of out, which is now left.
  pub record IntegrateOutputs (n : ℕ) (x : A) (from to : ℕ) (l out a left : List A) : Type 0 where
    pub cells : a ≡ ran o n (replicate (to - from) x) l
    pub wrote : left ≡ take from out ++ (tops o n (replicate (to - from) x) l ++ drop to out)

  -- The sample x has gone through the combs into the hold, which stands for R outputs.
  pub record InterpolateSample (n at : ℕ) (s : Figures A) (combs : List A) (x : A) (t : Figures A) (left : List A) (next : ℕ) : Type 0 where
    pub ring : Ring n next t left
    pub same : t.rate ≡ s.rate
    pub state : (integrators : List A) → ringed t integrators left next ≡ fed o (ringed s integrators combs at) x

  -- The outputs from i on, all on the hold.
  pub record InterpolateRest (n i : ℕ) (s : Figures A) (l out : List A) (t : Figures A) (a left : List A) : Type 0 where
    pub numbers : t ≡ rested s (length out - i)
    pub climb : IntegrateOutputs n s.hold i (length out) l out a left
