-- The interpolator over a list of samples: at every step its cells are those of Cascade's sequences, the combs run at the samples' rate and
-- the integrators over the held values, so its outputs are known, each by its number. No law is asked of the words.
use mathlib.Core.Path.{◌≡◌, refl, sym, ap, ap₂, subst, ◌∙◌}
use mathlib.Core.List.{List, [], ◌∷◌}
use mathlib.Core.Option.{Option, some}
use Prim.Native.Nat.{ℕ, zero, suc, ◌+◌, ◌*◌, ◌-◌, ◌/◌, ◌≤◌, ◌<◌}
use native.Mathlib.Omega.{arith}
use native.Mathlib.Nat.{add-zero, zero-add}
use lib.Arith.{digits_div}
use lib.Dec.{eqb-suc-zero}
use lib.ListN.{length, get_or, drop, length-drop}
use lib.Seq.{get_or-drop}
use Rattle.sums.specs.Ops.{Ops}
use Rattle.sums.specs.Machine.{Machine, integrated, summed, differed, interpolated_at, interpolated, risen_at, risen}
use Rattle.sums.specs.Moving.{held}
use Rattle.sums.specs.State.{State, view}
use Rattle.sums.specs.Calls.{rise_number, rise_state, rise_given, sample}
use Rattle.sums.specs.Runs.{needed, due_sample, unread, risings}
use Rattle.sums.proofs.Shapes.{Lines}
use Rattle.sums.proofs.Arrays.{view-put, view_shaped, rose_shaped}
use Rattle.sums.proofs.Steps.{Fit, accepted, room, rise_waits_fit, rise_takes_fit}
use Rattle.sums.proofs.Counts.{needed_wait, needed_give}
use Rattle.sums.proofs.Cascade.{seg, comb_val, lines_at, lines_start, combed-next, differed_is, int_val, ints_at, ints_begin}
use Rattle.sums.proofs.Cascade.{integrated-next, summed_is}

module _ {A : Type 0} (o : Ops A) where
  -- the machine's outputs: the first sample is looked at where one is due
  unfoldable climb : Machine A → ℕ → List A → List A
  climb m zero xs = []
  climb m (suc n) xs = risen o m (get_or xs 0 o.nil) ∷ climb (interpolated o m (get_or xs 0 o.nil)) n (unread m.countdown xs)

  -- a step over arrays, with the first sample where one is due, is the machine's
  record Rose (s : State A) (x : Option A) (y : A) : Type 0 where
    pub number : rise_number s x ≡ 0
    pub next : interpolated o (view s) (sample o x) ≡ interpolated o (view s) y
    pub out : rise_given o s x ≡ risen o (view s) y
    pub fit : Fit (rise_state o s x)

  rose : (s : State A) → Fit s → (xs : List A) (c : ℕ) → s.countdown ≡ c → Rose s (due_sample o c xs) (get_or xs 0 o.nil)
  unfolding rise_number interpolated interpolated_at rise_given risen risen_at view
  rose s f xs zero e = record { number = rw (accepted s f, e); next = refl; out = refl; fit = rise_takes_fit o s f (get_or xs 0 o.nil) e }
  rose s f xs (suc c) e = record {
    number = rw (accepted s f, e, eqb-suc-zero c);
    next = rw e;
    out = rw e;
    fit = rise_waits_fit o s f (omega arith);
  }

  view_rose : (s : State A) → Fit s → (x : Option A) (y : A) → Rose s x y → view (rise_state o s x) ≡ interpolated o (view s) y
  unfolding rise_state
  view_rose s f x y r =
      rw r.number (view-put s (room s f) (interpolated o (view s) (sample o x)) (rose_shaped o s (sample o x) (room s f)) ∙ r.next)

  risings_climb : (s : State A) → Fit s → (n : ℕ) (xs : List A) → risings o s n xs ≡ climb (view s) n xs
  unfolding risings climb view
  risings_climb s f zero xs = refl
  risings_climb s f (suc n) xs =
      let r = rose s f xs s.countdown refl in
      let t : State A = rise_state o s (due_sample o s.countdown xs) in
      ap₂ ◌∷◌ r.out
      (risings_climb t r.fit n (unread s.countdown xs)
      ∙ ap (λ m. climb m n (unread s.countdown xs)) (view_rose s f (due_sample o s.countdown xs) (get_or xs 0 o.nil) r))

  module _ (M : ℕ) (c : 0 < M) (s : Machine A) (h : Lines M s.lines) (due-now : s.countdown ≡ 0) (x : ℕ → A) where
    abbrev R : ℕ
    R = suc s.rate

    -- what the integrators are given
    abbrev feed : ℕ → A
    feed = held R (comb_val o s.lines x)

    unfoldable hold_of : ℕ → A
    hold_of zero = s.hold
    hold_of (suc n) = comb_val o s.lines x n

    -- the machine before step number t, where n samples were read and the countdown is d
    unfoldable state_at : ℕ → ℕ → ℕ → Machine A
    state_at t n d = record {
      integrators = ints_at o s.integrators feed t;
      lines = lines_at o s.lines x n;
      hold = hold_of n;
      rate = s.rate;
      countdown = d;
      unsettled = s.unsettled;
    }

    state-start : s ≡ state_at 0 0 0
    unfolding state_at hold_of
    state-start = λ i. record {
      integrators = sym (ints_begin o s.integrators feed) i;
      lines = sym (lines_start o s.lines x) i;
      hold = s.hold;
      rate = s.rate;
      countdown = due-now i;
      unsettled = s.unsettled;
    }

    -- the value that is held at each step
    feed_at : (t n i : ℕ) → i < R → t ≡ n * R + i → feed t ≡ comb_val o s.lines x n
    unfolding held
    feed_at t n i l e = ap (λ k. comb_val o s.lines x (k / R)) e ∙ ap (comb_val o s.lines x) (digits_div n l)

    -- a sample is due
    module _ (t n : ℕ) (e : t ≡ n * R) where
      fed : differed o (lines_at o s.lines x n) (x n) ≡ feed t
      fed = differed_is o M c s.lines x n h ∙ sym (feed_at t n 0 (omega arith) (omega arith))

      takes : interpolated o (state_at t n 0) (x n) ≡ state_at (suc t) (suc n) s.rate
      unfolding interpolated interpolated_at state_at hold_of
      takes = λ i. record {
        integrators = (ap (integrated o (ints_at o s.integrators feed t)) fed ∙ integrated-next o s.integrators feed t) i;
        lines = combed-next o M c s.lines x n h i;
        hold = differed_is o M c s.lines x n h i;
        rate = s.rate;
        countdown = s.rate;
        unsettled = s.unsettled;
      }

      gives_due : risen o (state_at t n 0) (x n) ≡ int_val o s.integrators feed t
      unfolding risen risen_at state_at
      gives_due = ap (summed o (ints_at o s.integrators feed t)) fed ∙ summed_is o s.integrators feed t

    -- none is due: y isn't looked at
    module _ (t n d : ℕ) (e : feed t ≡ comb_val o s.lines x n) (y : A) where
      holds : interpolated o (state_at t (suc n) (suc d)) y ≡ state_at (suc t) (suc n) d
      unfolding interpolated interpolated_at state_at hold_of
      holds = λ i. record {
        integrators = (ap (integrated o (ints_at o s.integrators feed t)) (sym e) ∙ integrated-next o s.integrators feed t) i;
        lines = lines_at o s.lines x (suc n);
        hold = comb_val o s.lines x n;
        rate = s.rate;
        countdown = d;
        unsettled = s.unsettled;
      }

      gives-held : risen o (state_at t (suc n) (suc d)) y ≡ int_val o s.integrators feed t
      unfolding risen risen_at state_at hold_of
      gives-held = ap (summed o (ints_at o s.integrators feed t)) (sym e) ∙ summed_is o s.integrators feed t

    -- the outputs of k steps over samples l that stand in the sequence from number n on
    climb_from : (k : ℕ) (l : List A) (t n d : ℕ) → ((i : ℕ) → i < length l → get_or l i o.nil ≡ x (n + i))
        → needed k d s.rate ≤ length l
        → t + d ≡ n * R → d ≤ s.rate → climb (state_at t n d) k l ≡ seg (int_val o s.integrators feed) t k
    unfolding climb seg state_at
    climb_from zero l t n d a q e b = refl
    climb_from (suc k) l t n zero a q e b =
        let e' : t ≡ n * R = omega arith in
        let q' : suc (needed k s.rate s.rate) ≤ length l = subst (λ m. m ≤ length l) (needed_give k 0 s.rate refl) q in
        let y-is : get_or l 0 o.nil ≡ x n = a 0 (omega arith) ∙ ap x (add-zero n) in
        let r : length (drop 1 l) ≡ length l - 1 = length-drop 1 l in
        ap₂ ◌∷◌ (ap (risen o (state_at t n 0)) y-is ∙ gives_due t n e')
        (ap (λ m. climb m k (drop 1 l)) (ap (interpolated o (state_at t n 0)) y-is ∙ takes t n e')
        ∙ climb_from k (drop 1 l) (suc t) (suc n) s.rate
        (λ i h. get_or-drop 1 l i o.nil ∙ a (1 + i) (omega arith) ∙ ap x (omega arith)) (omega arith) (omega arith) (omega arith))
    climb_from (suc k) l t zero (suc d) a q e b = absurd (omega arith)
    climb_from (suc k) l t (suc n) (suc d) a q e b =
        let f : feed t ≡ comb_val o s.lines x n = feed_at t n (s.rate - d) (omega arith) (omega arith) in
        let one : suc d - 1 ≡ d = omega arith in
        let q' : needed k d s.rate ≤ length l = subst (λ m. m ≤ length l)
        (needed_wait k (suc d) s.rate (omega arith) ∙ ap (λ m. needed k m s.rate) one) q in
        ap₂ ◌∷◌ (gives-held t n d f (get_or l 0 o.nil))
        (ap (λ m. climb m k l) (holds t n d f (get_or l 0 o.nil)) ∙ climb_from k l (suc t) (suc n) d a q' (omega arith) (omega arith))

  -- the outputs of an accepted state that is due, each by its number; x is any sequence in which the samples stand
  pub risings_are : (s : State A) → Fit s → s.countdown ≡ 0 → (n : ℕ) (xs : List A) → needed n 0 s.rate ≤ length xs
      → (x : ℕ → A) → ((i : ℕ) → i < length xs → get_or xs i o.nil ≡ x i)
      → risings o s n xs ≡ seg (int_val o (view s).integrators (held (suc s.rate) (comb_val o (view s).lines x))) 0 n
  unfolding view
  risings_are s f e n xs q x a =
      let m : Machine A = view s in
      let h : Lines s.delay m.lines = (view_shaped s (room s f)).delay in
      risings_climb s f n xs
      ∙ ap (λ q. climb q n xs) (state-start s.delay f.good.some m h e x)
      ∙ climb_from s.delay f.good.some m h e x n xs 0 0 0 (λ i b. a i b ∙ ap x (sym (zero-add i))) q (omega arith) (omega arith)
