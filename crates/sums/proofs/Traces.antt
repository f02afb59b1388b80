-- The decimator over a list of inputs: at every time its cells are those of Cascade's sequences, so its outputs are known, each by
-- its number: value and mark. No law is asked of the words.
use mathlib.Core.Path.{◌≡◌, refl, sym, ap, ap₂, ◌∙◌}
use mathlib.Core.List.{List, [], ◌∷◌}
use mathlib.Core.Option.{none, some}
use Prim.Native.Nat.{ℕ, zero, suc, ◌+◌, ◌*◌, ◌-◌, ◌≤◌, ◌<◌}
use native.Mathlib.Omega.{arith}
use native.Mathlib.Nat.{add-zero, zero-add}
use lib.ListN.{length, get_or}
use Rattle.sums.specs.Ops.{Ops, Laws}
use Rattle.sums.specs.Machine.{Machine, Output, summed, combed, differed, decimated_at, decimated, given_at, given}
use Rattle.sums.specs.Moving.{moving}
use Rattle.sums.specs.State.{State, view}
use Rattle.sums.specs.Calls.{step_state, step_given}
use Rattle.sums.specs.Runs.{needed, join, outputs}
use Rattle.sums.proofs.Shapes.{Lines, Shaped}
use Rattle.sums.proofs.Arrays.{view-put, view_shaped, stepped_shaped}
use Rattle.sums.proofs.Steps.{Fit, accepted, room, step_fit}
use Rattle.sums.proofs.Counts.{needed-none, needed_wait, needed_give}
use Rattle.sums.proofs.Sequences.{down}
use Rattle.sums.proofs.Cascade.{seg, comb_val, lines_at, lines_start, combed-next, differed_is, int_val, ints_at, ints_begin}
use Rattle.sums.proofs.Cascade.{integrated-next, summed_is, cascade}

module _ {A : Type 0} (o : Ops A) where
  -- the machine's outputs
  unfoldable trace : Machine A → List A → List (Output A)
  trace m [] = []
  trace m (x ∷ xs) = join (given o m x) (trace (decimated o m x) xs)

  -- the steps over arrays are the machine's
  view-step : (s : State A) → Fit s → (x : A) → view (step_state o s x) ≡ decimated o (view s) x
  unfolding step_state
  view-step s f x = rw (accepted s f) (view-put s (room s f) (decimated o (view s) x) (stepped_shaped o s x (room s f)))

  given-step : (s : State A) → Fit s → (x : A) → step_given o s x ≡ given o (view s) x
  unfolding step_given
  given-step s f x = rw (accepted s f)

  outputs_trace : (s : State A) → Fit s → (xs : List A) → outputs o s xs ≡ trace (view s) xs
  unfolding outputs trace
  outputs_trace s f [] = refl
  outputs_trace s f (x ∷ xs) =
      ap₂ join (given-step s f x)
      (outputs_trace (step_state o s x) (step_fit o s f x) xs ∙ ap (λ m. trace m xs) (view-step s f x))

  -- what the combs are given: the last integrator at every output's time
  unfoldable pub slow : Machine A → (ℕ → A) → ℕ → A
  slow s x = down (suc s.rate) s.countdown (int_val o s.integrators x)

  -- output number k, from 0, and what it tells
  unfoldable pub output : Machine A → (ℕ → A) → ℕ → A
  output s x = comb_val o s.lines (slow s x)

  unfoldable pub outcome : Machine A → (ℕ → A) → ℕ → Output A
  outcome s x k = record { value = output s x k; told = s.unsettled - k }

  unfoldable hold_at : Machine A → (ℕ → A) → ℕ → A
  hold_at s x zero = s.hold
  hold_at s x (suc n) = output s x n

  -- the machine before input number t, where n outputs were given and the countdown is d
  unfoldable state_at : Machine A → (ℕ → A) → ℕ → ℕ → ℕ → Machine A
  state_at s x t n d = record {
    integrators = ints_at o s.integrators x t;
    lines = lines_at o s.lines (slow s x) n;
    hold = hold_at s x n;
    rate = s.rate;
    countdown = d;
    unsettled = s.unsettled - n;
  }

  module _ (M : ℕ) (c : 0 < M) (s : Machine A) (h : Lines M s.lines) (x : ℕ → A) where
    state-start : s ≡ state_at s x 0 0 s.countdown
    unfolding state_at hold_at
    state-start =
        let e : s.unsettled ≡ s.unsettled - 0 = omega arith in
        λ i. record {
          integrators = sym (ints_begin o s.integrators x) i;
          lines = sym (lines_start o s.lines (slow s x)) i;
          hold = s.hold;
          rate = s.rate;
          countdown = s.countdown;
          unsettled = e i;
        }

    next_wait : (t n d : ℕ) → decimated o (state_at s x t n (suc d)) (x t) ≡ state_at s x (suc t) n d
    unfolding decimated decimated_at state_at
    next_wait t n d = rw (integrated-next o s.integrators x t)

    silent : (t n d : ℕ) → given o (state_at s x t n (suc d)) (x t) ≡ none
    unfolding given given_at state_at
    silent t n d = refl

    -- at the time of output number n
    module _ (t n : ℕ) (e : t ≡ s.countdown + n * suc s.rate) where
      into_combs : summed o (ints_at o s.integrators x t) (x t) ≡ slow s x n
      unfolding slow down
      into_combs = summed_is o s.integrators x t ∙ ap (int_val o s.integrators x) e

      out_of_combs : differed o (lines_at o s.lines (slow s x) n) (summed o (ints_at o s.integrators x t) (x t)) ≡ output s x n
      unfolding output
      out_of_combs = ap (differed o (lines_at o s.lines (slow s x) n)) into_combs ∙ differed_is o M c s.lines (slow s x) n h

      next-out : decimated o (state_at s x t n 0) (x t) ≡ state_at s x (suc t) (suc n) s.rate
      unfolding decimated decimated_at state_at hold_at
      next-out =
          let u : s.unsettled - n - 1 ≡ s.unsettled - suc n = omega arith in
          λ i. record {
            integrators = integrated-next o s.integrators x t i;
            lines = (ap (combed o (lines_at o s.lines (slow s x) n)) into_combs ∙ combed-next o M c s.lines (slow s x) n h) i;
            hold = out_of_combs i;
            rate = s.rate;
            countdown = s.rate;
            unsettled = u i;
          }

      speaks : given o (state_at s x t n 0) (x t) ≡ some (outcome s x n)
      unfolding given given_at state_at outcome
      speaks = rw out_of_combs

    -- the outputs over inputs l that stand in the sequence from number t on
    trace_from : (l : List A) (t n d : ℕ) → ((i : ℕ) → i < length l → get_or l i o.nil ≡ x (t + i)) → t + d
        ≡ s.countdown + n * suc s.rate
        → trace (state_at s x t n d) l ≡ seg (outcome s x) n (needed (length l) d s.rate)
    unfolding trace seg
    trace_from [] t n d a e = rw needed-none
    trace_from (y ∷ l) t n zero a e =
        let e' : t ≡ s.countdown + n * suc s.rate = omega arith in
        let y-is : y ≡ x t = a 0 (omega arith) ∙ ap x (add-zero t) in
        rw (y-is, speaks t n e', next-out t n e', needed_give (length l) 0 s.rate refl)
        (ap (λ r. outcome s x n ∷ r)
        (trace_from l (suc t) (suc n) s.rate (λ i b. a (suc i) (omega arith) ∙ ap x (omega arith)) (omega arith)))
    trace_from (y ∷ l) t n (suc d) a e =
        let y-is : y ≡ x t = a 0 (omega arith) ∙ ap x (add-zero t) in
        let f : needed (suc (length l)) (suc d) s.rate ≡ needed (length l) d s.rate =
        needed_wait (length l) (suc d) s.rate (omega arith) ∙ ap (λ k. needed (length l) k s.rate) (omega arith) in
        rw (y-is, silent t n d, next_wait t n d, f)
        (trace_from l (suc t) n d (λ i b. a (suc i) (omega arith) ∙ ap x (omega arith)) (omega arith))

  -- a list of inputs as a sequence: zeros behind it
  abbrev pub nth : List A → ℕ → A
  nth xs t = get_or xs t o.nil

  -- the outputs of an accepted state over a list of inputs, each by its number
  pub outputs_are : (s : State A) → Fit s → (xs : List A) → outputs o s xs
      ≡ seg (outcome (view s) (nth xs)) 0 (needed (length xs) s.countdown s.rate)
  unfolding view
  outputs_are s f xs =
      let m : Machine A = view s in
      let h : Lines s.delay m.lines = (view_shaped s (room s f)).delay in
      outputs_trace s f xs
      ∙ ap (λ q. trace q xs) (state-start s.delay f.good.some m h (nth xs))
      ∙ trace_from s.delay f.good.some m h (nth xs) xs 0 0 s.countdown (λ i b. ap (nth xs) (sym (zero-add i))) (omega arith)

  -- settled: past N M outputs it is the moving sum
  pub output_settled : Laws o → (N M : ℕ) (s : Machine A) → Shaped N M s → (x : ℕ → A) (k : ℕ) → N * M ≤ k
      → output s x k ≡ moving o (suc s.rate * M) N x (s.countdown + k * suc s.rate)
  unfolding output slow
  output_settled g N M s h x k l =
      let e : k ≡ k - N * M + length s.integrators * M = rw h.order (omega arith) in
      ap (output s x) e
      ∙ cascade o g (suc s.rate) M s.countdown s.integrators s.lines x (k - N * M) (h.lines_order ∙ sym h.order) h.delay
      ∙ ap₂ (λ n t. moving o (suc s.rate * M) n x (s.countdown + t * suc s.rate)) h.order (sym e)
