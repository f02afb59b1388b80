-- Steps in turn are their kept inputs, countdown and outputs, each by itself; so the two calls give what they promise.
use mathlib.Core.Path.{◌≡◌, refl, sym, ap, ◌∙◌}
use mathlib.Core.List.{List, [], ◌∷◌}
use Prim.Native.Nat.{ℕ, zero, suc, ◌+◌, ◌-◌, ◌*◌, ◌<◌, ◌≤◌}
use native.Mathlib.Omega.{arith}
use lib.IntN.{ℤ}
use lib.ListN.{length}
use borrow.Author.Tests.{lt-ltb, le-ltb}
use Rattle.sums.specs.Runs.{needed, over}
use Rattle.fir.specs.declared.Fir.{Fir}
use Rattle.std.specs.Prelude.{None, Some, Result, Ok, Err}
use Rattle.blocks.specs.declared.refusal.Refusal.{Refusal}
use Rattle.blocks.specs.Refusals.{answer, refusal_at}
use Rattle.fir.specs.Weights.{taken, weighed}
use Rattle.fir.specs.Calls.{stepped_at, outputs, after, block_number, decimated_of, written_of}
use Rattle.fir.specs.Inner.{kept, due_in, outputs_from}
use Rattle.fir.proofs.Standing.{due_in_law}

abbrev engine : List ℤ → ℕ → Fir
engine cells c = record { cells = cells; countdown = c }

pub outputs_from_law : (cells : List ℤ) (c : ℕ) (xs : List ℤ) → outputs (engine cells c) xs ≡ outputs_from cells c xs
unfolding outputs stepped_at outputs_from
outputs_from_law cells c [] = refl
outputs_from_law cells zero (x ∷ xs) = ap (λ (ys : List ℤ). weighed (taken cells x) ∷ ys) (outputs_from_law (taken cells x) 63 xs)
outputs_from_law cells (suc c) (x ∷ xs) = outputs_from_law (taken cells x) c xs

pub after_is : (cells : List ℤ) (c : ℕ) (xs : List ℤ) → after (engine cells c) xs ≡ engine (kept cells xs) (due_in c (length xs))
unfolding after stepped_at kept due_in
after_is cells c [] = refl
after_is cells zero (x ∷ xs) = after_is (taken cells x) 63 xs
after_is cells (suc c) (x ∷ xs) = after_is (taken cells x) c xs

-- the step
pub step_waits : (l : List ℤ) (n : ℕ) → (n ≡ 0 → ⊥) → (None ≡ (stepped_at l n).out) × (engine l (n - 1) ≡ (stepped_at l n).state)
unfolding stepped_at
step_waits l zero h = absurd (h refl)
step_waits l (suc n) h = let e : suc n - 1 ≡ n = omega arith in (refl, rw e)

pub step_gives : (l : List ℤ) (n : ℕ) → n ≡ 0 → (Some (weighed l) ≡ (stepped_at l n).out) × (engine l 63 ≡ (stepped_at l n).state)
unfolding stepped_at
step_gives l n h = (rw h, rw h)

-- the block
module _ (s : Fir) (xs out : List ℤ) where
  abbrev need : ℕ
  need = needed (length xs) s.countdown 63

  pub refuses : length out < need
      → (◌≡◌ {A = Result ℕ Refusal} (Err Refusal.ShortOutput) (decimated_of s xs out).wrote) × (s ≡ (decimated_of s xs out).state)
      × (out ≡ written_of s xs out)
  unfolding block_number decimated_of written_of answer refusal_at
  refuses h = let e = lt-ltb (length out) need h in (rw e, rw e, rw e)

  pub writes : (n c : ℕ) (l o : List ℤ) → n ≤ length out → n ≡ need → c ≡ s.countdown + n * 64 - length xs
      → l ≡ kept s.cells xs → o ≡ over (outputs_from s.cells s.countdown xs) out
      → (◌≡◌ {A = Result ℕ Refusal} (Ok n) (decimated_of s xs out).wrote) × (engine l c ≡ (decimated_of s xs out).state)
      × (o ≡ written_of s xs out)
  unfolding block_number decimated_of written_of answer
  writes n c l o h e f g k =
      let t = le-ltb (length out) need (omega arith) in
      let d : c ≡ due_in s.countdown (length xs) = f ∙ ap (λ (m : ℕ). s.countdown + m * 64 - length xs) e ∙ sym (due_in_law s.countdown (length xs)) in
      (rw (t, e), rw (t, after_is s.cells s.countdown xs, d, g), rw (t, k, outputs_from_law s.cells s.countdown xs))
