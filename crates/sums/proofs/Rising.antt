-- A run of interpolator calls alone from an accepted state: its outputs are those of the steps in turn over the samples that it reads, and
-- it reads as many as are needed.
use mathlib.Core.Path.{◌≡◌, refl, sym, ap, ap₂, subst, ◌∙◌}
use mathlib.Core.Bool.{Bool, true, false}
use mathlib.Core.List.{List, [], ◌∷◌, ◌++◌, append-nil}
use mathlib.Core.Logic.{◌⊎◌, inl, inr, ⊎_elim}
use mathlib.Core.Option.{Option, none, some}
use Prim.Native.Nat.{ℕ, zero, suc, ◌+◌, ◌-◌, ◌≤◌, ◌<◌}
use native.Mathlib.Nat.{add-zero, zero-add, suc-add}
use native.Mathlib.Omega.{arith}
use lib.Dec.{ltb, eqb-suc-zero}
use lib.IntN.{ℤ}
use lib.ListN.{length, take, drop, length-append, take-append-drop}
use lib.Seq.{length-take-le}
use borrow.Author.Tests.{ltb-false, eq-eqb, ne_eqb}
use Rattle.sums.specs.Ops.{Ops}
use Rattle.sums.specs.State.{State, refusal}
use Rattle.sums.specs.Calls.{rise_number, rise_state, rise_given}
use Rattle.sums.specs.Runs.{needed, due_sample, unread, fill_number, fill_state, risings, risen_after}
use Rattle.sums.specs.Demands.{along, after_calls, Raise, rise, fill, samples, lifts, yields}
use Rattle.sums.proofs.Steps.{Fit, accepted, down, rise_waits, rise_takes, rise_waits_fit, rise_takes_fit}
use Rattle.sums.proofs.Counts.{needed-none, needed_wait, needed_give}
use Rattle.sums.proofs.Fills.{risings_due, risings_wait}

nothing : {A : Type 0} (l : List A) → length l ≡ 0 → l ≡ []
nothing [] e = refl
nothing (a ∷ l) e = absurd (omega arith)

module _ {A : Type 0} (o : Ops A) where
  pub risings-length : (s : State A) (n : ℕ) (xs : List A) → length (risings o s n xs) ≡ n
  unfolding risings
  risings-length s zero xs = refl
  risings-length s (suc n) xs = ap suc (risings-length (rise_state o s (due_sample o s.countdown xs)) n (unread s.countdown xs))

  -- n steps over exactly the samples that they need, then m more over the rest
  record Parts (s : State A) (n m : ℕ) (xs rest : List A) : Type 0 where
    pub outs : risings o s (n + m) (xs ++ rest) ≡ risings o s n xs ++ risings o (risen_after o s n xs) m rest
    pub state : risen_after o s (n + m) (xs ++ rest) ≡ risen_after o (risen_after o s n xs) m rest
    pub counts : needed (n + m) s.countdown s.rate ≡ length xs + needed m (risen_after o s n xs).countdown (risen_after o s n xs).rate
    pub fit : Fit (risen_after o s n xs)

  parts_none : (s : State A) → Fit s → (m : ℕ) (rest : List A) → Parts s 0 m [] rest
  unfolding risings risen_after
  parts_none s f m rest = record { outs = rw (zero-add m); state = rw (zero-add m); counts = rw (zero-add m) (omega arith); fit = f }

  -- a step from s to t, then n
  record Onward (s t : State A) (k : ℕ) (xs ys : List A) (y : A) : Type 0 where
    pub outs : risings o s (suc k) xs ≡ y ∷ risings o t k ys
    pub state : risen_after o s (suc k) xs ≡ risen_after o t k ys
    pub counts : needed (suc k) s.countdown s.rate + length ys ≡ needed k t.countdown t.rate + length xs

  parts_more : (s t : State A) (n m : ℕ) (xs ys rest : List A) (y : A)
      → Onward s t n xs ys y → Onward s t (n + m) (xs ++ rest) (ys ++ rest) y → Parts t n m ys rest → Parts s (suc n) m xs rest
  parts_more s t n m xs ys rest y short long on = record {
    outs = rw (suc-add n m, short.outs, short.state) (long.outs ∙ ap (λ l. y ∷ l) on.outs);
    state = rw (suc-add n m, short.state) (long.state ∙ on.state);
    counts = rw (suc-add n m, short.state) (omega (arith, long.counts, on.counts, length-append xs rest, length-append ys rest));
    fit = subst (λ q. Fit q) (sym short.state) on.fit;
  }

  -- a sample is due
  onward_due : (s : State A) → Fit s → s.countdown ≡ 0 → (k : ℕ) (x : A) (xs : List A)
      → Onward s (rise_state o s (some x)) k (x ∷ xs) xs (rise_given o s (some x))
  onward_due s f z k x xs =
      let d = risings_due o s k (x ∷ xs) z x refl in
      record {
        outs = d.0;
        state = d.1;
        counts =
            omega (arith, needed_give k s.countdown s.rate z, ap (λ q. needed k q.countdown q.rate) (rise_takes o s f x z));
      }

  -- none is due
  onward_wait : (s : State A) → Fit s → 0 < s.countdown → (k : ℕ) (xs : List A)
      → Onward s (rise_state o s none) k xs xs (rise_given o s none)
  onward_wait s f h k xs =
      let d = risings_wait o s k xs h in
      record {
        outs = d.0;
        state = d.1;
        counts = omega (arith, needed_wait k s.countdown s.rate h, ap (λ q. needed k q.countdown q.rate) (rise_waits o s f h));
      }

  parts : (n : ℕ) (s : State A) → Fit s → (m : ℕ) (xs rest : List A) → length xs ≡ needed n s.countdown s.rate → Parts s n m xs rest
  parts zero s f m xs rest e =
      subst (λ l. Parts s 0 m l rest) (sym (nothing xs (e ∙ needed-none s.countdown s.rate))) (parts_none s f m rest)
  parts (suc n) s f m [] rest e =
      ⊎_elim
      (λ z. absurd (omega (arith, needed_give n s.countdown s.rate z)))
      (λ h. let w = onward_wait s f h in
      parts_more s (rise_state o s none) n m [] [] rest (rise_given o s none) (w n []) (w (n + m) rest)
      (parts n (rise_state o s none) (rise_waits_fit o s f h) m [] rest (omega (arith, (w n []).counts))))
      (down s.countdown)
  parts (suc n) s f m (x ∷ xs) rest e =
      ⊎_elim
      (λ z. let d = onward_due s f z in
      parts_more s (rise_state o s (some x)) n m (x ∷ xs) xs rest (rise_given o s (some x)) (d n x xs) (d (n + m) x (xs ++ rest))
      (parts n (rise_state o s (some x)) (rise_takes_fit o s f x z) m xs rest (omega (arith, (d n x xs).counts))))
      (λ h. let w = onward_wait s f h in
      parts_more s (rise_state o s none) n m (x ∷ xs) (x ∷ xs) rest (rise_given o s none) (w n (x ∷ xs)) (w (n + m) (x ∷ (xs ++ rest)))
      (parts n (rise_state o s none) (rise_waits_fit o s f h) m (x ∷ xs) rest (omega (arith, (w n (x ∷ xs)).counts))))
      (down s.countdown)

-- the number of a step of an accepted state, by what is due
module _ {A : Type 0} (s : State A) (e : refusal s ≡ 0) where
  pub due_number : (x : A) → s.countdown ≡ 0 → rise_number s (some x) ≡ 0
  unfolding rise_number
  due_number x z = rw (e, eq-eqb s.countdown 0 z)

  pub early_number : (x : A) → 0 < s.countdown → rise_number s (some x) ≡ 21
  unfolding rise_number
  early_number x h = rw (e, ne_eqb s.countdown 0 (λ z. omega arith))

  pub missing_number : s.countdown ≡ 0 → rise_number s none ≡ 22
  unfolding rise_number
  missing_number z = rw (e, eq-eqb s.countdown 0 z)

  pub held_number : 0 < s.countdown → rise_number s none ≡ 0
  unfolding rise_number
  held_number h = rw (e, ne_eqb s.countdown 0 (λ z. omega arith))

-- calls from s that read xs and give ys leave t
pub record Climbed (o : Ops ℤ) (s : State ℤ) (xs ys : List ℤ) (t : State ℤ) : Type 0 where
  pub steps : ℕ
  pub counts : length xs ≡ needed steps s.countdown s.rate
  pub gave : ys ≡ risings o s steps xs
  pub left : t ≡ risen_after o s steps xs

module _ (o : Ops ℤ) where
  none_climbed : (s : State ℤ) → Climbed o s [] [] s
  unfolding risings risen_after
  none_climbed s = record { steps = 0; counts = sym (needed-none s.countdown s.rate); gave = refl; left = refl }

  climbed_on : (s t u : State ℤ) → Fit s → (xs ys xs' ys' : List ℤ) → Climbed o s xs ys t → Climbed o t xs' ys' u
      → Climbed o s (xs ++ xs') (ys ++ ys') u
  climbed_on s t u f xs ys xs' ys' a b =
      let p = parts o a.steps s f b.steps xs xs' a.counts in
      record {
        steps = a.steps + b.steps;
        counts = length-append xs xs' ∙ ap (λ k. length xs + k) b.counts
            ∙ sym (p.counts ∙ ap (λ q. length xs + needed b.steps q.countdown q.rate) (sym a.left));
        gave = ap₂ ◌++◌ a.gave (b.gave ∙ ap (λ q. risings o q b.steps xs') a.left) ∙ sym p.outs;
        left = b.left ∙ ap (λ q. risen_after o q b.steps xs') a.left ∙ sym p.state;
      }

  pub climbed_fit : (s t : State ℤ) → Fit s → (xs ys : List ℤ) → Climbed o s xs ys t → Fit t
  climbed_fit s t f xs ys a = subst (λ q. Fit q) (sym a.left) (parts o a.steps s f 0 xs [] a.counts).fit

  -- a block reads no more samples than are needed
  filled : (s : State ℤ) → Fit s → (n : ℕ) (xs : List ℤ) → needed n s.countdown s.rate ≤ length xs
      → Climbed o s (take (needed n s.countdown s.rate) xs) (risings o s n xs) (risen_after o s n xs)
  unfolding risings risen_after
  filled s f n xs h =
      let k : ℕ = needed n s.countdown s.rate in
      let p = parts o n s f 0 (take k xs) (drop k xs) (length-take-le k xs h) in
      let whole : take k xs ++ drop k xs ≡ xs = take-append-drop k xs in
      record {
        steps = n;
        counts = length-take-le k xs h;
        gave = ap₂ (λ m l. risings o s m l) (sym (add-zero n)) (sym whole) ∙ p.outs ∙ append-nil (risings o s n (take k xs));
        left = ap₂ (λ m l. risen_after o s m l) (sym (add-zero n)) (sym whole) ∙ p.state;
      }

  fill_climbed : (s : State ℤ) → Fit s → (xs out : List ℤ) (b : Bool) → ltb (length xs) (needed (length out) s.countdown s.rate) ≡ b
      → Climbed o s (samples s (fill xs out)) (yields o s (fill xs out)) (lifts o s (fill xs out))
  unfolding samples yields lifts fill_state fill_number
  fill_climbed s f xs out true e = rw (accepted s f, e) (none_climbed s)
  fill_climbed s f xs out false e =
      rw (accepted s f, e) (filled s f (length out) xs (ltb-false (length xs) (needed (length out) s.countdown s.rate) e))

  stays : (s : State ℤ) (x : Option ℤ) (k : ℕ) → rise_number s x ≡ suc k → rise_state o s x ≡ s
  unfolding rise_state
  stays s x k e = rw (e, eqb-suc-zero k)

  rise_climbed : (s : State ℤ) → Fit s → (x : Option ℤ) → (s.countdown ≡ 0) ⊎ (0 < s.countdown)
      → Climbed o s (samples s (rise x)) (yields o s (rise x)) (lifts o s (rise x))
  unfolding samples yields lifts risings risen_after
  rise_climbed s f (some x) (inl z) =
      let d = onward_due o s f z 0 x [] in
      rw (due_number s (accepted s f) x z)
      (record {
        steps = 1;
        counts = sym (needed_give 0 s.countdown s.rate z ∙ ap suc (needed-none s.rate s.rate));
        gave = sym d.outs;
        left = sym d.state;
      })
  rise_climbed s f (some x) (inr h) =
      rw (early_number s (accepted s f) x h, stays s (some x) 20 (early_number s (accepted s f) x h)) (none_climbed s)
  rise_climbed s f none (inl z) =
      rw (missing_number s (accepted s f) z, stays s none 21 (missing_number s (accepted s f) z)) (none_climbed s)
  rise_climbed s f none (inr h) =
      let d = onward_wait o s f h 0 [] in
      rw (held_number s (accepted s f) h)
      (record {
        steps = 1;
        counts = sym (needed_wait 0 s.countdown s.rate h ∙ needed-none (s.countdown - 1) s.rate);
        gave = sym d.outs;
        left = sym d.state;
      })

  one : (s : State ℤ) → Fit s → (c : Raise) → Climbed o s (samples s c) (yields o s c) (lifts o s c)
  one s f (rise x) = rise_climbed s f x (down s.countdown)
  one s f (fill xs out) = fill_climbed s f xs out (ltb (length xs) (needed (length out) s.countdown s.rate)) refl

  pub climbed : (s : State ℤ) → Fit s → (calls : List Raise)
      → Climbed o s (along (lifts o) samples s calls) (along (lifts o) (yields o) s calls) (after_calls (lifts o) s calls)
  unfolding along after_calls
  climbed s f [] = none_climbed s
  climbed s f (c ∷ cs) =
      let a = one s f c in
      let t : State ℤ = lifts o s c in
      climbed_on s t (after_calls (lifts o) t cs) f (samples s c) (yields o s c) (along (lifts o) samples t cs)
      (along (lifts o) (yields o) t cs) a
      (climbed t (climbed_fit s t f (samples s c) (yields o s c) a) cs)
