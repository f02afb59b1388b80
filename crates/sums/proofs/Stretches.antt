-- A stretch of a block: the integrators run over many inputs, or many times over one. A decimator's stretch is all inputs up to the next
-- output, or to the end: the integrators run over it, then the combs once.
use mathlib.Core.Path.{◌≡◌, refl, sym, ap, ap₂, subst, ◌∙◌}
use mathlib.Core.List.{List, [], ◌∷◌, ◌++◌}
use mathlib.Core.Option.{none, some}
use Prim.Native.Nat.{ℕ, zero, suc, ◌+◌, ◌-◌, ◌<◌, ◌≤◌}
use native.Mathlib.Numerals.{add-one}
use native.Mathlib.Omega.{arith}
use lib.ListN.{length, get_or, take, drop, set, replicate, take-append-drop}
use lib.Seq.{slice, slice-cons, slice_empty, length-slice, length-take-le, drop-append-le, drop-cons, take-suc, take-suc-set, drop-set-lt}
use lib.Seq.{append_snoc}
use Rattle.sums.specs.Ops.{Ops}
use Rattle.sums.specs.Machine.{integrated, summed}
use Rattle.sums.specs.State.{State}
use Rattle.sums.specs.Calls.{step_state}
use Rattle.sums.specs.Runs.{join, outputs, after}
use Rattle.sums.proofs.Loops.{part_ints, part_sum, part_cells, part_comb, ints_length}
use Rattle.sums.proofs.Steps.{packed, Fit, ints_room, turn_gives, step_waits, given_waits, step_fit}
use Rattle.sums.proofs.Blocks.{Jump}

-- the first n integrators after the inputs of a list
unfoldable pub ran : {A : Type 0} → Ops A → ℕ → List A → List A → List A
ran o n [] l = l
ran o n (x ∷ xs) l = ran o n xs (part_ints o n l x)

-- and what the last of them hands on at each
unfoldable pub tops : {A : Type 0} → Ops A → ℕ → List A → List A → List A
tops o n [] l = []
tops o n (x ∷ xs) l = part_sum o n l x ∷ tops o n xs (part_ints o n l x)

-- what the last of the first n integrators holds; x where n is 0
unfoldable pub last_of : {A : Type 0} → Ops A → ℕ → A → List A → A
last_of o zero x l = x
last_of o (suc n) x l = get_or l n o.nil

module _ {A : Type 0} (o : Ops A) (n : ℕ) where
  -- the loop over inputs from k to `to`, by what is left
  pub ran_turn : (k to : ℕ) (xs l : List A) → k < to → to ≤ length xs
      → ran o n (slice k to xs) l ≡ ran o n (slice (k + 1) to xs) (part_ints o n l (get_or xs k o.nil))
  unfolding ran
  ran_turn k to xs l h m = rw (slice-cons k to xs o.nil h m, add-one k)

  pub ran_end : (k to : ℕ) (xs l : List A) → k ≤ to → to ≤ k → ran o n (slice k to xs) l ≡ l
  unfolding ran
  ran_end k to xs l h m = let e : k ≡ to = omega arith in rw (e, slice_empty to xs)

  pub ran_length : (xs l : List A) → n ≤ length l → length (ran o n xs l) ≡ length l
  unfolding ran
  ran_length [] l h = refl
  ran_length (x ∷ xs) l h =
      let e = ints_length o n l x h in ran_length xs (part_ints o n l x) (omega arith) ∙ e

  pub tops_length : (xs l : List A) → length (tops o n xs l) ≡ length xs
  unfolding tops
  tops_length [] l = refl
  tops_length (x ∷ xs) l = ap suc (tops_length xs (part_ints o n l x))

  -- the loop over outputs from i to `to`, all on one input x, by what is left: l are the cells and out the outputs before a turn
  module _ (i to : ℕ) (x : A) (l out : List A) (h : i < to) where
    more : to - i ≡ suc (to - (i + 1))
    more = omega arith

    pub climb_cells : ran o n (replicate (to - i) x) l ≡ ran o n (replicate (to - (i + 1)) x) (part_ints o n l x)
    unfolding ran
    climb_cells = rw more

    pub climb_wrote : to ≤ length out
        → take i out ++ (tops o n (replicate (to - i) x) l ++ drop to out)
        ≡ take (i + 1) (set out i (part_sum o n l x))
        ++ (tops o n (replicate (to - (i + 1)) x) (part_ints o n l x) ++ drop to (set out i (part_sum o n l x)))
    unfolding tops
    climb_wrote b =
        rw (more, add-one i, take-suc-set out i (part_sum o n l x) (omega arith), drop-set-lt to out i (part_sum o n l x) h)
        (sym (append_snoc (take i out) (part_sum o n l x) (tops o n (replicate (to - suc i) x) (part_ints o n l x) ++ drop to out)))

  module _ (i to : ℕ) (x : A) (l out : List A) (low : i ≤ to) (high : to ≤ i) where
    no_more : to - i ≡ 0
    no_more = omega arith

    pub climb_cells_end : ran o n (replicate (to - i) x) l ≡ l
    unfolding ran
    climb_cells_end = rw no_more

    pub climb_wrote_end : take i out ++ (tops o n (replicate (to - i) x) l ++ drop to out) ≡ out
    unfolding tops
    climb_wrote_end = let e : i ≡ to = omega arith in rw (no_more, e) (take-append-drop to out)

  ran_snoc : (x : A) (xs l : List A) → ran o n (xs ++ (x ∷ [])) l ≡ part_ints o n (ran o n xs l) x
  unfolding ran
  ran_snoc x [] l = refl
  ran_snoc x (y ∷ xs) l = ran_snoc x xs (part_ints o n l y)

  slice_snoc : (i j : ℕ) (xs : List A) → i ≤ j → j < length xs → slice i (j + 1) xs ≡ slice i j xs ++ (get_or xs j o.nil ∷ [])
  slice_snoc i j xs h k =
      let l : length (take j xs) ≡ j = length-take-le j xs (omega arith) in
      rw (add-one j, take-suc xs j o.nil k) (drop-append-le i (take j xs) (get_or xs j o.nil ∷ []) (omega arith))

  -- one more input
  pub ran_more : (i j : ℕ) (xs l : List A) → i ≤ j → j < length xs
      → ran o n (slice i (j + 1) xs) l ≡ part_ints o n (ran o n (slice i j xs) l) (get_or xs j o.nil)
  ran_more i j xs l h k = ap (λ q. ran o n q l) (slice_snoc i j xs h k) ∙ ran_snoc (get_or xs j o.nil) (slice i j xs) l

last_of_law : {A : Type 0} (o : Ops A) (n : ℕ) (x : A) (l k : List A) → n ≤ length l → last_of o n x (integrated o (take n l) x ++ k)
    ≡ summed o (take n l) x
unfolding last_of integrated summed
last_of_law o zero x l k h = refl
last_of_law o (suc n) x [] k h = absurd (omega arith)
last_of_law o (suc zero) x (c ∷ l) k h = refl
last_of_law o (suc (suc n)) x (c ∷ l) k h = last_of_law o (suc n) (o.add c x) l k (omega arith)

-- the last integrator's cell is the running sum
pub last_is : {A : Type 0} (o : Ops A) (n : ℕ) (x : A) (l : List A) → n ≤ length l → last_of o n x (part_ints o n l x) ≡ part_sum o n l x
last_is o n x l h = last_of_law o n x l (drop n l) h

pub last_at : {A : Type 0} (o : Ops A) (n : ℕ) (x : A) (l : List A) → 0 < n → get_or l (n - 1) o.nil ≡ last_of o n x l
unfolding last_of
last_at o zero x l h = absurd (omega arith)
last_at o (suc n) x l h = ap (λ k. get_or l k o.nil) (omega arith)

-- a part of the inputs and the rest
parted : {A : Type 0} (i j : ℕ) (xs : List A) → i ≤ j → j ≤ length xs → drop i xs ≡ slice i j xs ++ drop j xs
parted i j xs h k =
    let l : length (take j xs) ≡ j = length-take-le j xs k in
    ap (drop i) (sym (take-append-drop j xs)) ∙ drop-append-le i (take j xs) (drop j xs) (omega arith)

module _ {A : Type 0} (o : Ops A) where
  -- the state after inputs that give nothing
  abbrev waited : State A → List A → State A
  waited s ys = packed s.order s.delay s.rate (s.countdown - length ys) s.unsettled s.hold
      (ran o s.order ys s.integrators) s.combs

  record Quiet (s t : State A) (ys zs : List A) : Type 0 where
    pub states : after o s (ys ++ zs) ≡ after o t zs
    pub outs : outputs o s (ys ++ zs) ≡ outputs o t zs
    pub fit : Fit t

  waits : (s : State A) (ys zs : List A) → Fit s → length ys ≤ s.countdown → Quiet s (waited s ys) ys zs
  unfolding ran after outputs
  waits s [] zs f h =
      let e : s.countdown - 0 ≡ s.countdown = omega arith in record { states = rw e; outs = rw e; fit = rw e f }
  waits s (y ∷ ys) zs f h =
      let w : State A = packed s.order s.delay s.rate (s.countdown - 1) s.unsettled s.hold
      (part_ints o s.order s.integrators y) s.combs in
      let st : step_state o s y ≡ w = step_waits o s f y (omega arith) in
      let q : Quiet w (waited w ys) ys zs = waits w ys zs (subst (λ t. Fit t) st (step_fit o s f y)) (omega arith) in
      let e : s.countdown - suc (length ys) ≡ s.countdown - 1 - length ys = omega arith in
      let on : waited w ys ≡ waited s (y ∷ ys) = rw e in
      record {
        states = ap (λ t. after o t (ys ++ zs)) st ∙ q.states ∙ ap (λ t. after o t zs) on;
        outs = ap₂ (λ g t. join g (outputs o t (ys ++ zs))) (given_waits o s f y (omega arith)) st ∙ q.outs ∙ ap (λ t. outputs o t zs) on;
        fit = subst (λ t. Fit t) on q.fit;
      }

-- from input i of xs and an accepted state
module _ {A : Type 0} (o : Ops A) (xs : List A) (i : ℕ) (s : State A) (f : Fit s) (more : i ≤ length xs) where
  -- the inputs end before the next output
  pub jump_waits : length xs - i ≤ s.countdown → (c : ℕ) → c ≡ s.countdown - (length xs - i) → (h : A) → h ≡ s.hold
      → (is : List A) → is ≡ ran o s.order (slice i (length xs) xs) s.integrators
      → Jump o xs s i (packed s.order s.delay s.rate c s.unsettled h is s.combs) none (length xs)
  jump_waits q c ec h eh is ei =
      let ys : List A = slice i (length xs) xs in
      let l : length ys ≡ length xs - i = length-slice i (length xs) xs (omega arith) in
      let p : drop i xs ≡ ys ++ drop (length xs) xs = parted i (length xs) xs (omega arith) (omega arith) in
      let w = waits o s ys (drop (length xs) xs) f (omega arith) in
      rw (ec, ← l, eh, ei) (record {
        states = ap (after o s) p ∙ w.states;
        outs = ap (outputs o s) p ∙ w.outs;
        within = omega arith;
        fit = w.fit;
      })

  -- the next output falls on input i + countdown
  module _ (q : i + s.countdown < length xs) where
    abbrev e : ℕ
    e = i + s.countdown

    abbrev ys : List A
    ys = slice i e xs

    abbrev x : A
    x = get_or xs e o.nil

    abbrev w : State A
    w = waited o s ys

    spent : length ys ≡ s.countdown
    spent = length-slice i e xs (omega arith) ∙ omega arith

    there : drop i xs ≡ ys ++ (x ∷ drop (e + 1) xs)
    there = parted i e xs (omega arith) (omega arith) ∙ ap (λ l. ys ++ l) (rw (add-one e) (drop-cons xs e o.nil q))

    pub jump_gives : (is : List A) → is ≡ ran o s.order (slice i (e + 1) xs) s.integrators
        → (v y : A) (u : ℕ) (ks : List A) → v ≡ last_of o s.order x is
        → y ≡ part_comb o s.delay s.order s.combs v → ks ≡ part_cells o s.delay s.order s.combs v → u ≡ s.unsettled - 1
        → Jump o xs s i (packed s.order s.delay s.rate s.rate u y is ks)
        (some (record { value = y; told = s.unsettled })) (e + 1)
    unfolding after outputs
    jump_gives is ei v y u ks ev ey ek eu =
        let h = waits o s ys (x ∷ drop (e + 1) xs) f (omega (arith, spent)) in
        let ri : is ≡ part_ints o s.order w.integrators x = ei ∙ ran_more o s.order i e xs s.integrators (omega arith) q in
        let rv : v ≡ part_sum o s.order w.integrators x = ev ∙ ap (last_of o s.order x) ri
        ∙ last_is o s.order x w.integrators (ints_room w h.fit) in
        let z : w.countdown ≡ 0 = omega (arith, spent) in
        let tr = turn_gives o w h.fit x is ri z v y u ks rv ey ek eu in
        record {
          states = ap (after o s) there ∙ h.states ∙ ap (λ t. after o t (drop (e + 1) xs)) (sym tr.state);
          outs = ap (outputs o s) there ∙ h.outs ∙ ap₂ (λ g t. join g (outputs o t (drop (e + 1) xs))) (sym tr.out) (sym tr.state);
          within = omega (arith, q);
          fit = tr.fit;
        }
