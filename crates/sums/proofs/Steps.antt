-- The steps of an accepted state, either way, as the loops over its arrays leave them; and that they end in an accepted state.
use mathlib.Core.Path.{◌≡◌, refl, sym, ap, subst, ◌∙◌}
use mathlib.Core.List.{List}
use mathlib.Core.Option.{Option, none, some, some-injective}
use mathlib.Core.Logic.{◌⊎◌, inl, inr, ⊎_elim}
use Prim.Native.Nat.{ℕ, zero, suc, ◌-◌, ◌*◌, ◌≤◌, ◌<◌}
use native.Mathlib.Omega.{arith}
use lib.Dec.{eqb-suc-zero}
use lib.ListN.{length}
use Rattle.sums.specs.Ops.{Ops}
use Rattle.sums.specs.Machine.{Machine, Output, decimated, decimated_at, given, given_at, interpolated, interpolated_at, risen, risen_at}
use Rattle.blocks.specs.Blocks.{unless}
use Rattle.sums.specs.State.{State, view, put, refusal}
use Rattle.sums.specs.Calls.{rise_number, step_state, step_given, rise_state, rise_given}
use Rattle.sums.proofs.Refusals.{Good, good, good_accepts, owed_most}
use Rattle.sums.proofs.Arrays.{Room, rows_back}
use Rattle.sums.proofs.Loops.{part_ints, part_sum, part_cells, part_comb, ints_length, cells-length}

-- a state from its numbers, its hold and its arrays
abbrev pub packed : {A : Type 0} → ℕ → ℕ → ℕ → ℕ → ℕ → A → List A → List A → State A
packed N M r c u h is ks = record { order = N; delay = M; rate = r; countdown = c; unsettled = u; hold = h; integrators = is; combs = ks }

-- an accepted state over arrays of 8 and 64 cells: every step starts from one and ends in one
pub record Fit {A : Type 0} (s : State A) : Type 0 where
  pub good : Good s
  pub long8 : length s.integrators ≡ 8
  pub long64 : length s.combs ≡ 64

pub fitted : {A : Type 0} (s : State A) → refusal s ≡ 0 → length s.integrators ≡ 8 → length s.combs ≡ 64 → Fit s
fitted s e i k = record { good = good s e; long8 = i; long64 = k }

-- whatever the state, an output of its step tells at most 64
unless_some : {A : Type 0} (k : ℕ) (g : Option A) (y : A) → unless k none g ≡ some y → (k ≡ 0) × (g ≡ some y)
unless_some zero g y e = (refl, e)
unless_some (suc k) g y e = let z : ◌≡◌ {A = ℕ} 0 1 = clash (rw (eqb-suc-zero k) at e) in absurd (omega arith)
  where
    clash : none ≡ some y → ◌≡◌ {A = ℕ} 0 1
    clash d = cc

given-told : {A : Type 0} (o : Ops A) (m : Machine A) (x : A) (n : ℕ) (y : Output A) → given_at o m x n ≡ some y → y.told ≡ m.unsettled
unfolding given_at
given-told o m x zero y e = sym (ap (λ q. q.told) (some-injective _ y e))
given-told o m x (suc n) y e = let z : ◌≡◌ {A = ℕ} 0 1 = cc in absurd (omega arith)

pub told-most : {A : Type 0} (o : Ops A) (s : State A) (x : A) (y : Output A) → step_given o s x ≡ some y → y.told ≤ 64
unfolding step_given given view
told-most o s x y e =
    let d = unless_some (refusal s) (given o (view s) x) y e in
    let t : y.told ≡ s.unsettled = given-told o (view s) x s.countdown y d.1 in
    omega (arith, t, owed_most s.order s.delay s.rate s.countdown s.unsettled (good s d.0))

module _ {A : Type 0} (s : State A) (f : Fit s) where
  pub accepted : refusal s ≡ 0
  accepted = good_accepts s f.good

  pub ints_room : s.order ≤ length s.integrators
  ints_room = omega (arith, f.good.few, f.long8)

  pub combs-room : s.order * 8 ≤ length s.combs
  combs-room = omega (arith, f.good.few, f.long64)

  pub room : Room s
  room = record { some = f.good.some; short = f.good.short; integrators_in = ints_room; combs_in = combs-room }

-- a countdown is 0 or above it
pub down : (c : ℕ) → (c ≡ 0) ⊎ (0 < c)
down zero = inl refl
down (suc c) = inr (omega arith)

module _ {A : Type 0} (o : Ops A) (s : State A) (f : Fit s) (x : A) where
  -- the last integrator's new value
  abbrev summit : A
  summit = part_sum o s.order s.integrators x

  waits_at : (n : ℕ) → s.countdown ≡ suc n
      → step_state o s x ≡ packed s.order s.delay s.rate n s.unsettled s.hold (part_ints o s.order s.integrators x)
      s.combs
  unfolding step_state decimated decimated_at view put
  waits_at n e = rw (accepted s f, e, rows_back s.delay s.order s.combs f.good.short (combs-room s f))

  -- above countdown 0
  pub step_waits : 0 < s.countdown
      → step_state o s x
      ≡ packed s.order s.delay s.rate (s.countdown - 1) s.unsettled s.hold (part_ints o s.order s.integrators x)
      s.combs
  step_waits h = waits_at (s.countdown - 1) (omega arith)

  pub given_waits : 0 < s.countdown → step_given o s x ≡ none
  unfolding step_given given given_at view
  given_waits h = let e : s.countdown ≡ suc (s.countdown - 1) = omega arith in rw (accepted s f, e)

  -- at countdown 0
  pub step_gives : s.countdown ≡ 0
      → step_state o s x
      ≡ packed s.order s.delay s.rate s.rate (s.unsettled - 1) (part_comb o s.delay s.order s.combs summit)
      (part_ints o s.order s.integrators x) (part_cells o s.delay s.order s.combs summit)
  unfolding step_state decimated decimated_at view put
  step_gives e = rw (accepted s f, e)

  pub given-gives : s.countdown ≡ 0
      → step_given o s x ≡ some (record { value = part_comb o s.delay s.order s.combs summit; told = s.unsettled })
  unfolding step_given given given_at view
  given-gives e = rw (accepted s f, e)

  fit_waits : 0 < s.countdown
      → Fit (packed s.order s.delay s.rate (s.countdown - 1) s.unsettled s.hold
      (part_ints o s.order s.integrators x) s.combs)
  fit_waits h =
      let g = f.good in record {
        good = record { few = g.few; some = g.some; short = g.short; slow = g.slow; near = omega (arith, g.near); owed = g.owed };
        long8 = ints_length o s.order s.integrators x (ints_room s f) ∙ f.long8;
        long64 = f.long64;
      }

  fit_gives : Fit (packed s.order s.delay s.rate s.rate (s.unsettled - 1) (part_comb o s.delay s.order s.combs summit)
      (part_ints o s.order s.integrators x) (part_cells o s.delay s.order s.combs summit))
  fit_gives =
      let g = f.good in record {
        good = record { few = g.few; some = g.some; short = g.short; slow = g.slow; near = g.slow; owed = omega (arith, g.owed) };
        long8 = ints_length o s.order s.integrators x (ints_room s f) ∙ f.long8;
        long64 = cells-length o s.delay g.short g.some s.order s.combs summit (combs-room s f) ∙ f.long64;
      }

  -- a step ends in an accepted state
  pub step_fit : Fit (step_state o s x)
  step_fit =
      ⊎_elim
      (λ e. subst (λ t. Fit t) (sym (step_gives e)) fit_gives)
      (λ h. subst (λ t. Fit t) (sym (step_waits h)) (fit_waits h))
      (down s.countdown)

-- t and g are what a step of s on x leaves and gives, and t is accepted again
pub record Turn {A : Type 0} (o : Ops A) (s : State A) (x : A) (t : State A) (g : Option (Output A)) : Type 0 where
  pub state : t ≡ step_state o s x
  pub out : g ≡ step_given o s x
  pub fit : Fit t

-- the two ways of a step, from what the loops have shown
module _ {A : Type 0} (o : Ops A) (s : State A) (f : Fit s) (x : A) (is : List A) (ei : is ≡ part_ints o s.order s.integrators x) where
  pub turn_waits : 0 < s.countdown → (h : A) → h ≡ s.hold
      → Turn o s x (packed s.order s.delay s.rate (s.countdown - 1) s.unsettled h is s.combs) none
  turn_waits c h eh =
      let e : packed s.order s.delay s.rate (s.countdown - 1) s.unsettled h is s.combs ≡ step_state o s x =
      rw (ei, eh) (sym (step_waits o s f x c)) in
      record { state = e; out = sym (given_waits o s f x c); fit = subst (λ t. Fit t) (sym e) (step_fit o s f x) }

  pub turn_gives : s.countdown ≡ 0 → (v y : A) (u : ℕ) (ks : List A) → v ≡ part_sum o s.order s.integrators x
      → y ≡ part_comb o s.delay s.order s.combs v → ks ≡ part_cells o s.delay s.order s.combs v → u ≡ s.unsettled - 1
      → Turn o s x (packed s.order s.delay s.rate s.rate u y is ks)
      (some (record { value = y; told = s.unsettled }))
  turn_gives c v y u ks ev ey ek eu =
      let e : packed s.order s.delay s.rate s.rate u y is ks ≡ step_state o s x =
      rw (ei, ey, ek, eu, ev) (sym (step_gives o s f x c)) in
      record { state = e; out = rw (ey, ev) (sym (given-gives o s f x c)); fit = subst (λ t. Fit t) (sym e) (step_fit o s f x) }

-- the interpolator's steps
module _ {A : Type 0} (o : Ops A) (s : State A) (f : Fit s) where
  rise_at : (n : ℕ) → s.countdown ≡ suc n
      → rise_state o s none ≡ packed s.order s.delay s.rate n s.unsettled s.hold
      (part_ints o s.order s.integrators s.hold) s.combs
  unfolding rise_state rise_number interpolated interpolated_at view put
  rise_at n e = rw (accepted s f, e, eqb-suc-zero n, rows_back s.delay s.order s.combs f.good.short (combs-room s f))

  -- above countdown 0, with no sample
  pub rise_waits : 0 < s.countdown
      → rise_state o s none
      ≡ packed s.order s.delay s.rate (s.countdown - 1) s.unsettled s.hold
      (part_ints o s.order s.integrators s.hold) s.combs
  rise_waits h = rise_at (s.countdown - 1) (omega arith)

  pub risen_waits : 0 < s.countdown → rise_given o s none ≡ part_sum o s.order s.integrators s.hold
  unfolding rise_given risen risen_at view
  risen_waits h = let e : s.countdown ≡ suc (s.countdown - 1) = omega arith in rw e

  module _ (x : A) where
    -- what the last comb hands on
    abbrev lowest : A
    lowest = part_comb o s.delay s.order s.combs x

    -- at countdown 0, with the sample x
    pub rise_takes : s.countdown ≡ 0
        → rise_state o s (some x)
        ≡ packed s.order s.delay s.rate s.rate s.unsettled lowest (part_ints o s.order s.integrators lowest)
        (part_cells o s.delay s.order s.combs x)
    unfolding rise_state rise_number interpolated interpolated_at view put
    rise_takes e = rw (accepted s f, e)

    pub risen_takes : s.countdown ≡ 0 → rise_given o s (some x) ≡ part_sum o s.order s.integrators lowest
    unfolding rise_given risen risen_at view
    risen_takes e = rw e

  -- a step ends in an accepted state
  pub rise_waits_fit : 0 < s.countdown → Fit (rise_state o s none)
  rise_waits_fit h =
      let g = f.good in subst (λ t. Fit t) (sym (rise_waits h)) (record {
        good = record { few = g.few; some = g.some; short = g.short; slow = g.slow; near = omega (arith, g.near); owed = g.owed };
        long8 = ints_length o s.order s.integrators s.hold (ints_room s f) ∙ f.long8;
        long64 = f.long64;
      })

  pub rise_takes_fit : (x : A) → s.countdown ≡ 0 → Fit (rise_state o s (some x))
  rise_takes_fit x e =
      let g = f.good in subst (λ t. Fit t) (sym (rise_takes x e)) (record {
        good = record { few = g.few; some = g.some; short = g.short; slow = g.slow; near = g.slow; owed = g.owed };
        long8 = ints_length o s.order s.integrators (lowest x) (ints_room s f) ∙ f.long8;
        long64 = cells-length o s.delay g.short g.some s.order s.combs x (combs-room s f) ∙ f.long64;
      })

-- t and y are what an interpolator's step of s on a sample or none leaves and gives, and t is accepted again
pub record Rise {A : Type 0} (o : Ops A) (s : State A) (x : Option A) (t : State A) (y : A) : Type 0 where
  pub state : t ≡ rise_state o s x
  pub out : y ≡ rise_given o s x
  pub fit : Fit t

module _ {A : Type 0} (o : Ops A) (s : State A) (f : Fit s) where
  pub rise_on : 0 < s.countdown → (h y : A) (is : List A) → h ≡ s.hold
      → is ≡ part_ints o s.order s.integrators h → y ≡ part_sum o s.order s.integrators h
      → Rise o s none (packed s.order s.delay s.rate (s.countdown - 1) s.unsettled h is s.combs) y
  rise_on c h y is eh ei ey =
      let e : packed s.order s.delay s.rate (s.countdown - 1) s.unsettled h is s.combs ≡ rise_state o s none =
      rw (ei, eh) (sym (rise_waits o s f c)) in
      record { state = e; out = rw (ey, eh) (sym (risen_waits o s f c)); fit = subst (λ t. Fit t) (sym e) (rise_waits_fit o s f c) }

  pub rise_due : s.countdown ≡ 0 → (x h y : A) (is ks : List A) → h ≡ part_comb o s.delay s.order s.combs x
      → ks ≡ part_cells o s.delay s.order s.combs x
      → is ≡ part_ints o s.order s.integrators h → y ≡ part_sum o s.order s.integrators h
      → Rise o s (some x) (packed s.order s.delay s.rate s.rate s.unsettled h is ks) y
  rise_due c x h y is ks eh ek ei ey =
      let e : packed s.order s.delay s.rate s.rate s.unsettled h is ks ≡ rise_state o s (some x) =
      rw (ei, ek, eh) (sym (rise_takes o s f x c)) in
      record { state = e; out = rw (ey, eh) (sym (risen_takes o s f x c)); fit = subst (λ t. Fit t) (sym e) (rise_takes_fit o s f x c) }
