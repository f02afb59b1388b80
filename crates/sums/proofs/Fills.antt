-- The loop over an interpolator's block, said by what is left to run: from output i, sample k and state s. A turn writes all outputs of
-- the hold, then puts the next sample into it.
use mathlib.Core.Path.{◌≡◌, refl, sym, ap, ap₂, ◌∙◌}
use mathlib.Core.List.{List, [], ◌∷◌, ◌++◌, append_assoc}
use mathlib.Core.Logic.{⊎_elim}
use mathlib.Core.Option.{none, some}
use Prim.Native.Nat.{ℕ, zero, suc, ◌+◌, ◌-◌, ◌<◌, ◌≤◌}
use native.Mathlib.Nat.{add-zero, zero-add, suc-add}
use native.Mathlib.Omega.{arith}
use lib.ListN.{length, get_or, take, drop, replicate, length-replicate, length-append, length-drop}
use lib.Seq.{take_at, length-take-le, drop-length, drop-drop, get_or-drop}
use Rattle.sums.specs.Ops.{Ops}
use Rattle.sums.specs.State.{State}
use Rattle.sums.specs.Calls.{rise_state, rise_given}
use Rattle.sums.specs.Runs.{needed, due_sample, unread, risings, risen_after}
use Rattle.sums.proofs.Steps.{Fit, packed, down, rise_waits, risen_waits, rise_waits_fit, rise_takes, risen_takes, rise_takes_fit}
use Rattle.sums.proofs.Counts.{needed-none, needed_wait, needed_give}
use Rattle.sums.proofs.Loops.{part_ints, part_sum, part_cells, part_comb}
use Rattle.sums.proofs.Stretches.{ran, tops, tops_length}

module _ {A : Type 0} (o : Ops A) (s : State A) (n : ℕ) (xs : List A) where
  -- a turn of the interpolator's steps where a sample is due, and where none is
  pub risings_due : s.countdown ≡ 0 → (x : A) → x ≡ get_or xs 0 o.nil
      → (risings o s (suc n) xs ≡ rise_given o s (some x) ∷ risings o (rise_state o s (some x)) n (drop 1 xs))
      × (risen_after o s (suc n) xs ≡ risen_after o (rise_state o s (some x)) n (drop 1 xs))
  unfolding risings risen_after
  risings_due e x ex =
      let d : due_sample o s.countdown xs ≡ some x = ap (λ c. due_sample o c xs) e ∙ ap some (sym ex) in
      let u : unread s.countdown xs ≡ drop 1 xs = ap (λ c. unread c xs) e in
      (rw (d, u), rw (d, u))

  pub risings_wait : 0 < s.countdown
      → (risings o s (suc n) xs ≡ rise_given o s none ∷ risings o (rise_state o s none) n xs)
      × (risen_after o s (suc n) xs ≡ risen_after o (rise_state o s none) n xs)
  unfolding risings risen_after
  risings_wait h =
      let e : s.countdown ≡ suc (s.countdown - 1) = omega arith in
      let d : due_sample o s.countdown xs ≡ none = ap (λ c. due_sample o c xs) e in
      let u : unread s.countdown xs ≡ xs = ap (λ c. unread c xs) e in
      (rw (d, u), rw (d, u))

-- The interpolator's steps on the arrays, without a test: a state may then stand just after a sample, which is held for R outputs, one
-- more than any countdown says.
module _ {A : Type 0} (o : Ops A) where
  -- a sample goes through the combs into the hold
  abbrev pub fed : State A → A → State A
  fed s x =
      packed s.order s.delay s.rate (suc s.rate) s.unsettled (part_comb o s.delay s.order s.combs x) s.integrators
      (part_cells o s.delay s.order s.combs x)

  -- the hold stands for m outputs
  abbrev pub climbed : State A → ℕ → State A
  climbed s m =
      packed s.order s.delay s.rate (s.countdown - m) s.unsettled s.hold
      (ran o s.order (replicate m s.hold) s.integrators) s.combs

  -- a step: t has a hold that stands for c outputs more
  abbrev up : State A → ℕ → State A
  up t c =
      packed t.order t.delay t.rate c t.unsettled t.hold (part_ints o t.order t.integrators t.hold) t.combs

  up_at : State A → A → ℕ → State A
  up_at s x zero = up (fed s x) s.rate
  up_at s x (suc c) = up s c

  top_at : State A → A → ℕ → A
  top_at s x zero = part_sum o s.order s.integrators (fed s x).hold
  top_at s x (suc c) = part_sum o s.order s.integrators s.hold

  -- n steps: their outputs, and the state at the end
  pub risen : State A → ℕ → List A → List A
  risen s zero xs = []
  risen s (suc n) xs =
      top_at s (get_or xs 0 o.nil) s.countdown ∷ risen (up_at s (get_or xs 0 o.nil) s.countdown) n (unread s.countdown xs)

  pub atop : State A → ℕ → List A → State A
  atop s zero xs = s
  atop s (suc n) xs = atop (up_at s (get_or xs 0 o.nil) s.countdown) n (unread s.countdown xs)

  module _ (s : State A) (n : ℕ) (xs : List A) {c : ℕ} (e : s.countdown ≡ c) where
    risen_at_law : risen s (suc n) xs ≡ top_at s (get_or xs 0 o.nil) c ∷ risen (up_at s (get_or xs 0 o.nil) c) n (unread c xs)
    unfolding risen
    risen_at_law = ap (λ k. top_at s (get_or xs 0 o.nil) k ∷ risen (up_at s (get_or xs 0 o.nil) k) n (unread k xs)) e

    atop_at : atop s (suc n) xs ≡ atop (up_at s (get_or xs 0 o.nil) c) n (unread c xs)
    unfolding atop
    atop_at = ap (λ k. atop (up_at s (get_or xs 0 o.nil) k) n (unread k xs)) e

  -- they are the rule's, from an accepted state
  rules : (s : State A) → Fit s → (n : ℕ) (xs : List A) → (risings o s n xs ≡ risen s n xs) × (risen_after o s n xs ≡ atop s n xs)
  unfolding risings risen_after risen atop up_at top_at
  rules s f zero xs = (refl, refl)
  rules s f (suc n) xs =
      let x : A = get_or xs 0 o.nil in
      ⊎_elim
      (λ e.
      let d = risings_due o s n xs e x refl in
      let on = rules (rise_state o s (some x)) (rise_takes_fit o s f x e) n (drop 1 xs) in
      let to = rise_takes o s f x e in (
        d.0 ∙ ap₂ ◌∷◌ (risen_takes o s f x e) (on.0 ∙ ap (λ t. risen t n (drop 1 xs)) to) ∙ sym (risen_at_law s n xs e),
        d.1 ∙ on.1 ∙ ap (λ t. atop t n (drop 1 xs)) to ∙ sym (atop_at s n xs e),
      ))
      (λ h.
      let d = risings_wait o s n xs h in
      let on = rules (rise_state o s none) (rise_waits_fit o s f h) n xs in
      let to = rise_waits o s f h in
      let e : s.countdown ≡ suc (s.countdown - 1) = omega arith in (
        d.0 ∙ ap₂ ◌∷◌ (risen_waits o s f h) (on.0 ∙ ap (λ t. risen t n xs) to) ∙ sym (risen_at_law s n xs e),
        d.1 ∙ on.1 ∙ ap (λ t. atop t n xs) to ∙ sym (atop_at s n xs e),
      ))
      (down s.countdown)

  -- a sample that is due may go in by itself
  module _ (s : State A) (n : ℕ) (xs : List A) (x : A) (ex : x ≡ get_or xs 0 o.nil) (e : s.countdown ≡ 0) where
    risen-fed : risen s (suc n) xs ≡ risen (fed s x) (suc n) (drop 1 xs)
    unfolding risen up_at top_at
    risen-fed = risen_at_law s n xs e ∙ rw ex

    atop_fed : atop s (suc n) xs ≡ atop (fed s x) (suc n) (drop 1 xs)
    unfolding atop up_at
    atop_fed = atop_at s n xs e ∙ rw ex

  -- outputs on one hold
  climbs : (m : ℕ) (s : State A) → m ≤ s.countdown → (k n : ℕ) → k ≡ m + n → (xs : List A)
      → (risen s k xs ≡ tops o s.order (replicate m s.hold) s.integrators ++ risen (climbed s m) n xs)
      × (atop s k xs ≡ atop (climbed s m) n xs)
  unfolding risen atop up_at top_at tops ran
  climbs zero s h k n e xs = let z : s.countdown - 0 ≡ s.countdown = omega arith in let q : k ≡ n = omega arith in (rw (z, q), rw (z, q))
  climbs (suc m) s h zero n e xs = absurd (omega arith)
  climbs (suc m) s h (suc k) n e xs =
      let c : s.countdown ≡ suc (s.countdown - 1) = omega arith in
      let on = climbs m (up s (s.countdown - 1)) (omega arith) k n (omega arith) xs in
      let z : s.countdown - 1 - m ≡ s.countdown - suc m = omega arith in (
        risen_at_law s k xs c ∙ ap (λ l. part_sum o s.order s.integrators s.hold ∷ l) (rw z at on.0),
        atop_at s k xs c ∙ (rw z at on.1),
      )

-- 01's count over outputs on one hold, over all that are left, and over a sample
needed_waits : (m n c r : ℕ) → m ≤ c → needed (m + n) c r ≡ needed n (c - m) r
needed_waits zero n c r h = ap₂ (λ l d. needed l d r) (zero-add n) (omega arith)
needed_waits (suc m) n c r h =
    ap (λ l. needed l c r) (suc-add m n) ∙ needed_wait (m + n) c r (omega arith) ∙ needed_waits m n (c - 1) r (omega arith)
    ∙ ap (λ d. needed n d r) (omega arith)

needed_read : (n c r : ℕ) → c < n → needed n c r ≡ suc (needed (n - c) (suc r) r)
needed_read n c r h =
    let e : n ≡ c + (n - c) = omega arith in let s : n - c ≡ suc (n - c - 1) = omega arith in
    ap (λ l. needed l c r) e ∙ needed_waits c (n - c) c r (omega arith) ∙ ap₂ (λ l d. needed l d r) s (omega arith)
    ∙ needed_give (n - c - 1) 0 r refl ∙ ap (λ d. suc (needed (n - c - 1) d r)) (omega arith)
    ∙ ap suc (sym (ap (λ l. needed l (suc r) r) s ∙ needed_wait (n - c - 1) (suc r) r (omega arith)))

-- the loop: s₀ and out₀ as the block began; s, out, the count k of samples read and the output i as they are
pub record Filling {A : Type 0} (o : Ops A) (xs out₀ out : List A) (s₀ s : State A) (k i : ℕ) : Type 0 where
  pub within : i ≤ length out
  pub same : length out ≡ length out₀
  pub enough : needed (length out₀) s₀.countdown s₀.rate ≤ length xs
  pub counts : needed (length out₀) s₀.countdown s₀.rate ≡ k + needed (length out₀ - i) s.countdown s.rate
  pub states : risen_after o s₀ (length out₀) xs ≡ atop o s (length out₀ - i) (drop k xs)
  pub outs : risings o s₀ (length out₀) xs ≡ take i out ++ risen o s (length out₀ - i) (drop k xs)

module _ {A : Type 0} (o : Ops A) (xs out₀ : List A) (s₀ : State A) where
  pub filling_start : Fit s₀ → needed (length out₀) s₀.countdown s₀.rate ≤ length xs → Filling o xs out₀ out₀ s₀ s₀ 0 0
  filling_start f h =
      let e : length out₀ - 0 ≡ length out₀ = omega arith in let r = rules o s₀ f (length out₀) xs in
      record { within = omega arith; same = refl; enough = h; counts = rw e (omega arith); states = rw e r.1; outs = rw e r.0 }

  module _ (out : List A) (s : State A) (k i : ℕ) (a : Filling o xs out₀ out s₀ s k i) where
    -- the outputs from i to e are written, all on the hold
    module _ (e : ℕ) (low : i ≤ e) (high : e ≤ length out) (left : List A)
        (el : left ≡ take i out ++ (tops o s.order (replicate (e - i) s.hold) s.integrators ++ drop e out)) where
      abbrev new : List A
      new = tops o s.order (replicate (e - i) s.hold) s.integrators

      count : length new ≡ e - i
      count = tops_length o s.order (replicate (e - i) s.hold) s.integrators ∙ length-replicate (e - i) s.hold

      seam : length (take i out ++ new) ≡ e
      seam = length-append (take i out) new ∙ omega (arith, count, length-take-le i out a.within)

      grouped : left ≡ (take i out ++ new) ++ drop e out
      grouped = el ∙ sym (append_assoc (take i out) new (drop e out))

      front : take e left ≡ take i out ++ new
      front = ap (take e) grouped ∙ take_at (take i out ++ new) (drop e out) e seam

      pub filling_same : length left ≡ length out₀
      filling_same = ap length grouped ∙ length-append (take i out ++ new) (drop e out) ∙ omega (arith, seam, length-drop e out, a.same)

    -- a sample is due after the hold's last output: it is at k, and t is the state with it
    module _ (h : s.countdown < length out₀ - i) where
      abbrev c : ℕ
      c = s.countdown

      abbrev rest : ℕ
      rest = length out₀ - (i + c)

      more : needed (length out₀ - i) c s.rate ≡ suc (needed rest (suc s.rate) s.rate)
      more = needed_read (length out₀ - i) c s.rate h ∙ ap (λ n. suc (needed n (suc s.rate) s.rate)) (omega arith)

      pub filling_read : k < length xs
      filling_read = omega (arith, a.enough, a.counts, more)

      module _ (x : A) (ex : x ≡ get_or xs k o.nil) (t : State A) (et : fed o (climbed o s c) x ≡ t) where
        cl : (risen o s (length out₀ - i) (drop k xs)
            ≡ tops o s.order (replicate c s.hold) s.integrators ++ risen o (climbed o s c) rest (drop k xs))
            × (atop o s (length out₀ - i) (drop k xs) ≡ atop o (climbed o s c) rest (drop k xs))
        cl = climbs o c s (omega arith) (length out₀ - i) rest (omega arith) (drop k xs)

        at : x ≡ get_or (drop k xs) 0 o.nil
        at = ex ∙ sym (get_or-drop k xs 0 o.nil ∙ ap (λ n. get_or xs n o.nil) (add-zero k))

        one : rest ≡ suc (rest - 1)
        one = omega arith

        risen_on : risen o (climbed o s c) rest (drop k xs) ≡ risen o t rest (drop (k + 1) xs)
        risen_on =
            ap (λ n. risen o (climbed o s c) n (drop k xs)) one ∙ risen-fed o (climbed o s c) (rest - 1) (drop k xs) x at (omega arith)
            ∙ ap₂ (λ q l. risen o q (suc (rest - 1)) l) et (drop-drop 1 k xs) ∙ ap (λ n. risen o t n (drop (k + 1) xs)) (sym one)

        atop_on : atop o (climbed o s c) rest (drop k xs) ≡ atop o t rest (drop (k + 1) xs)
        atop_on =
            ap (λ n. atop o (climbed o s c) n (drop k xs)) one ∙ atop_fed o (climbed o s c) (rest - 1) (drop k xs) x at (omega arith)
            ∙ ap₂ (λ q l. atop o q (suc (rest - 1)) l) et (drop-drop 1 k xs) ∙ ap (λ n. atop o t n (drop (k + 1) xs)) (sym one)

        counts_on : needed (length out₀) s₀.countdown s₀.rate ≡ k + 1 + needed rest t.countdown t.rate
        counts_on = a.counts ∙ omega (arith, more, ap (λ q. needed rest q.countdown q.rate) et)

      pub filling_turn : (left : List A)
          → left ≡ take i out ++ (tops o s.order (replicate (i + c - i) s.hold) s.integrators ++ drop (i + c) out)
          → (x : A) → x ≡ get_or xs k o.nil → (is : List A) → is ≡ ran o s.order (replicate (i + c - i) s.hold) s.integrators
          → (t : State A) → t ≡ fed o (packed s.order s.delay s.rate c s.unsettled s.hold is s.combs) x
          → Filling o xs out₀ left s₀ t (k + 1) (i + c)
      filling_turn left el x ex is ei t et =
          let z : i + c - i ≡ c = omega arith in
          let high : i + c ≤ length out = omega (arith, a.same) in
          let to : fed o (climbed o s c) x ≡ t =
          sym (et ∙ ap (λ l. fed o (packed s.order s.delay s.rate c s.unsettled s.hold l s.combs) x)
          (ei ∙ ap (λ m. ran o s.order (replicate m s.hold) s.integrators) z)) in
          let same : length left ≡ length out₀ = filling_same (i + c) (omega arith) high left el in
          record {
            within = omega (arith, a.same);
            same = same;
            enough = a.enough;
            counts = counts_on x ex t to;
            states = a.states ∙ (cl x ex t to).1 ∙ atop_on x ex t to;
            outs = a.outs
                ∙ ap (λ l. take i out ++ l) ((cl x ex t to).0
                ∙ ap₂ (λ m l. tops o s.order (replicate m s.hold) s.integrators ++ l) (sym z) (risen_on x ex t to))
                ∙ sym (append_assoc (take i out) (new (i + c) (omega arith) high left el) (risen o t rest (drop (k + 1) xs)))
                ∙ ap (λ l. l ++ risen o t rest (drop (k + 1) xs)) (sym (front (i + c) (omega arith) high left el));
          }

    -- the end: the hold's outputs fill the slice
    module _ (h : length out₀ - i ≤ s.countdown) (left : List A)
        (el : left ≡ take i out ++ (tops o s.order (replicate (length out - i) s.hold) s.integrators ++ drop (length out) out))
      where
        all : (risen o s (length out₀ - i) (drop k xs)
            ≡ tops o s.order (replicate (length out₀ - i) s.hold) s.integrators ++ risen o (climbed o s (length out₀ - i)) 0
            (drop k xs))
            × (atop o s (length out₀ - i) (drop k xs) ≡ atop o (climbed o s (length out₀ - i)) 0 (drop k xs))
        all = climbs o (length out₀ - i) s h (length out₀ - i) 0 (omega arith) (drop k xs)

        pub filled_state : (t : State A) → t ≡ climbed o s (length out - i) → t ≡ risen_after o s₀ (length out₀) xs
        unfolding atop
        filled_state t et = et ∙ ap (λ n. climbed o s (n - i)) a.same ∙ sym (a.states ∙ all.1)

        pub filled_out : left ≡ risings o s₀ (length out₀) xs
        unfolding risen
        filled_out =
            el ∙ ap (λ n. take i out ++ (tops o s.order (replicate (n - i) s.hold) s.integrators ++ drop (length out) out))
            a.same
            ∙ ap (λ l. take i out ++ (tops o s.order (replicate (length out₀ - i) s.hold) s.integrators ++ l)) (drop-length out)
            ∙ sym (a.outs ∙ ap (λ l. take i out ++ l) all.0)

        pub filled_count : k ≡ needed (length out₀) s₀.countdown s₀.rate
        filled_count =
            let e : length out₀ - i ≡ length out₀ - i + 0 = omega arith in
            sym (a.counts ∙ ap (λ n. k + n) (ap (λ n. needed n s.countdown s.rate) e
            ∙ needed_waits (length out₀ - i) 0 s.countdown s.rate h ∙ needed-none (s.countdown - (length out₀ - i)) s.rate)
            ∙ add-zero k)
