-- 01's count of a block's outputs, turn by turn, and that it is the count; and what each output of a block tells.
use mathlib.Core.Path.{◌≡◌, refl, sym, ap, ◌∙◌}
use mathlib.Core.Bool.{cond}
use mathlib.Core.List.{List, [], ◌∷◌}
use mathlib.Core.Logic.{◌⊎◌, inl, inr, ⊎_elim}
use Prim.Native.Nat.{ℕ, zero, suc, zero-le, ◌+◌, ◌-◌, ◌/◌, ◌<◌, ◌≤◌}
use native.Mathlib.Nat.{div-eq_of_lt, add-div_right}
use native.Mathlib.Omega.{arith}
use lib.Dec.{eqb, eqb-suc-zero}
use lib.ListN.{length, get_or}
use borrow.Author.Tests.{le-leb, lt-leb}
use Rattle.sums.specs.Ops.{Ops}
use Rattle.sums.specs.Machine.{Output}
use Rattle.sums.specs.State.{State}
use Rattle.sums.specs.Calls.{step_state}
use Rattle.sums.specs.Runs.{needed, outputs, first_told}
use Rattle.sums.proofs.Steps.{Fit, down, step_waits, given_waits, step_gives, given-gives, step_fit}

pub split : (a b : ℕ) → (a ≤ b) ⊎ (b < a)
split zero b = inl zero-le
split (suc a) zero = inr (omega arith)
split (suc a) (suc b) = ⊎_elim (λ p. inl (omega arith)) (λ q. inr (omega arith)) (split a b)

-- 01's formula, turn by turn
pub needed-none : (c r : ℕ) → needed 0 c r ≡ 0
unfolding needed
needed-none c r = simp (le-leb 0 c (omega arith))

pub needed_wait : (n c r : ℕ) → 0 < c → needed (suc n) c r ≡ needed n (c - 1) r
unfolding needed
needed_wait n c r h =
    ⊎_elim
    (λ k. simp (le-leb (suc n) c (omega arith), le-leb n (c - 1) k))
    (λ k. let e : suc n - 1 - c ≡ n - 1 - (c - 1) = omega arith in simp (lt-leb (suc n) c (omega arith), lt-leb n (c - 1) k, e))
    (split n (c - 1))

pub needed_give : (n c r : ℕ) → c ≡ 0 → needed (suc n) c r ≡ suc (needed n r r)
unfolding needed
needed_give n c r h =
    ⊎_elim
    (λ k. let e : suc n - 1 - c ≡ n = omega arith in
    simp (lt-leb (suc n) c (omega arith), le-leb n r k, e, div-eq_of_lt {n = n} {m = suc r} (omega arith)))
    (λ k. let e : suc n - 1 - c ≡ (n - 1 - r) + suc r = omega arith in
    let d : ((n - 1 - r) + suc r) / suc r ≡ (n - 1 - r) / suc r + 1 = add-div_right (n - 1 - r) {k = suc r} (omega arith) in
    simp (lt-leb (suc n) c (omega arith), lt-leb n r k, e, d) (omega arith))
    (split n r)

-- a block that gives an output reaches past its countdown
pub needed_some : (L c r : ℕ) → 0 < needed L c r → c < L
unfolding needed
needed_some L c r h = ⊎_elim (λ k. absurd (omega (arith, (rw (le-leb L c k) at h)))) (λ k. k) (split L c)

-- a list whose first tells u, and the rest one fewer
told_front : {A : Type 0} (y : Output A) (l : List (Output A)) (d : Output A) (u : ℕ) → y.told ≡ u
    → ((k : ℕ) → k < length l → (get_or l k d).told ≡ u - 1 - k)
    → (i : ℕ) → i < suc (length l) → (get_or (y ∷ l) i d).told ≡ u - i
told_front y l d u e on zero h = omega (arith, e)
told_front y l d u e on (suc i) h = omega (arith, on i (omega arith))

-- what a block tells, by the number of its outputs
head_told : {A : Type 0} (u : ℕ) (ys : List (Output A)) → ((d : Output A) → 0 < length ys → (get_or ys 0 d).told ≡ u - 0)
    → first_told ys ≡ cond (eqb (length ys) 0) 0 u
head_told u [] t = refl
head_told u (y ∷ ys) t = rw (eqb-suc-zero (length ys)) (omega (arith, t y (omega arith)))

module _ {A : Type 0} (o : Ops A) where
  pub outputs-length : (s : State A) → Fit s → (xs : List A) → length (outputs o s xs) ≡ needed (length xs) s.countdown s.rate
  unfolding outputs
  outputs-length s f [] = sym (needed-none s.countdown s.rate)
  outputs-length s f (x ∷ xs) =
      let t : State A = step_state o s x in
      let on : length (outputs o t xs) ≡ needed (length xs) t.countdown t.rate = outputs-length t (step_fit o s f x) xs in
      ⊎_elim
      (λ e. rw (given-gives o s f x e)
      (ap suc (on ∙ ap (λ q. needed (length xs) q.countdown q.rate) (step_gives o s f x e))
      ∙ sym (needed_give (length xs) s.countdown s.rate e)))
      (λ h. rw (given_waits o s f x h)
      (on ∙ ap (λ q. needed (length xs) q.countdown q.rate) (step_waits o s f x h)
      ∙ sym (needed_wait (length xs) s.countdown s.rate h)))
      (down s.countdown)

  -- output i of a block tells the unsettled count before the block less i
  pub outputs-told : (s : State A) → Fit s → (xs : List A) (i : ℕ) (d : Output A) → i < length (outputs o s xs)
      → (get_or (outputs o s xs) i d).told ≡ s.unsettled - i
  unfolding outputs
  outputs-told s f [] i d h = absurd (omega arith)
  outputs-told s f (x ∷ xs) i d h =
      let t : State A = step_state o s x in
      ⊎_elim
      (λ e. let g = given-gives o s f x e in
      rw g (told_front _ (outputs o t xs) d s.unsettled refl
      (λ k l. outputs-told t (step_fit o s f x) xs k d l ∙ ap (λ q. q.unsettled - k) (step_gives o s f x e)) i (rw g at h)))
      (λ w. let g = given_waits o s f x w in
      rw g (outputs-told t (step_fit o s f x) xs i d (rw g at h) ∙ ap (λ q. q.unsettled - i) (step_waits o s f x w)))
      (down s.countdown)

  -- and the block tells that count where it gives an output
  pub block-told : (s : State A) → Fit s → (xs : List A)
      → first_told (outputs o s xs) ≡ cond (eqb (needed (length xs) s.countdown s.rate) 0) 0 s.unsettled
  block-told s f xs =
      head_told s.unsettled (outputs o s xs) (λ d b. outputs-told s f xs 0 d b)
      ∙ ap (λ n. cond (eqb n 0) 0 s.unsettled) (outputs-length s f xs)
