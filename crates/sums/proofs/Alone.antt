-- A run of decimator calls alone from an accepted state: its outputs are those of the steps in turn over the inputs that it reads, each
-- with its input's number.
use mathlib.Core.Path.{◌≡◌, refl, sym, ap, ap₂, subst, ◌∙◌}
use mathlib.Core.Bool.{false}
use mathlib.Core.List.{List, [], ◌∷◌, ◌++◌}
use mathlib.Core.Logic.{◌⊎◌, inl, inr, ⊎_elim}
use Prim.Native.Nat.{ℕ, zero, suc, ◌+◌}
use native.Mathlib.Nat.{add-zero}
use native.Mathlib.Omega.{arith}
use lib.Dec.{eqb, eqb-suc-zero}
use lib.IntN.{ℤ}
use lib.ListN.{length}
use mir.Syntax.{Width}
use Rattle.sums.specs.Ops.{Ops}
use Rattle.sums.specs.State.{State}
use Rattle.sums.specs.Calls.{step_state}
use Rattle.sums.specs.Runs.{after}
use Rattle.sums.specs.Counted.{Counted, Numbered, take_number, block_number, take_state, take_given, block_state}
use Rattle.sums.specs.Signed.{signed_ops}
use Rattle.sums.specs.Demands.{Call, step, block, along, after_calls, reads, leaves, gives, Decimates, Decimator}
use Rattle.sums.proofs.Steps.{Fit, accepted, step_fit}
use Rattle.sums.proofs.Numbering.{block_room, numbering, numbering_append, taken_numbering, taken-after}

pub after_fit : {A : Type 0} (o : Ops A) (s : State A) → Fit s → (xs : List A) → Fit (after o s xs)
unfolding after
after_fit o s f [] = f
after_fit o s f (x ∷ xs) = after_fit o (step_state o s x) (step_fit o s f x) xs

-- one call: what it gives and leaves, from what it reads
record Took (o : Ops ℤ) (c : Counted ℤ) (xs : List ℤ) (ys : List (Numbered ℤ)) (d : Counted ℤ) : Type 0 where
  pub gave : ys ≡ numbering o c.inputs c.state xs
  pub left : d ≡ record { state = after o c.state xs; inputs = c.inputs + length xs }

-- a call's number is 0 or not
number : (k : ℕ) → (k ≡ 0) ⊎ (eqb k 0 ≡ false)
number zero = inl refl
number (suc k) = inr (eqb-suc-zero k)

module _ (o : Ops ℤ) where
  one : (c : Counted ℤ) → Fit c.state → (d : Call) → Took o c (reads c d) (gives o c d) (leaves o c d)
  unfolding reads gives leaves take_state take_given block_state numbering after
  one c f (step x) =
      let e : suc c.inputs ≡ c.inputs + length (x ∷ []) = omega arith in
      ⊎_elim
      (λ z. rw z (record { gave = refl; left = ap (λ n. record { state = step_state o c.state x; inputs = n }) e }))
      (λ z. rw z (record { gave = refl; left = rw (add-zero c.inputs) }))
      (number (take_number c 1))
  one c f (block xs out) =
      ⊎_elim
      (λ z. let h = block_room c xs out z in rw z (record { gave = taken_numbering o c f xs h; left = taken-after o c f xs h }))
      (λ z. rw z (record { gave = refl; left = rw (add-zero c.inputs) }))
      (number (block_number c xs out))

  pub leaves_fit : (c : Counted ℤ) → Fit c.state → (d : Call) → Fit (leaves o c d).state
  leaves_fit c f d = subst (λ q. Fit q.state) (sym (one c f d).left) (after_fit o c.state f (reads c d))

  -- a run
  calls_fit : (c : Counted ℤ) → Fit c.state → (calls : List Call) → Fit (after_calls (leaves o) c calls).state
  unfolding after_calls
  calls_fit c f [] = f
  calls_fit c f (d ∷ ds) = calls_fit (leaves o c d) (leaves_fit c f d) ds

  alone : (c : Counted ℤ) → Fit c.state → (calls : List Call)
      → along (leaves o) (gives o) c calls ≡ numbering o c.inputs c.state (along (leaves o) reads c calls)
  unfolding along
  alone c f [] = unfold numbering in refl
  alone c f (d ∷ ds) =
      let t = one c f d in
      let rest : List ℤ = along (leaves o) reads (leaves o c d) ds in
      ap₂ ◌++◌ t.gave (alone (leaves o c d) (leaves_fit c f d) ds ∙ ap (λ q. numbering o q.inputs q.state rest) t.left)
      ∙ sym (numbering_append o c.inputs c.state (reads c d) rest)

-- what holds of the steps in turn holds of every run
pub decimator : (w : Width) (N M r c u n : ℕ) (s : State ℤ) → Fit s
    → ((xs : List ℤ) → Decimates w N M r c u n xs (numbering (signed_ops w) n s xs))
    → Decimator w N M r c u n (record { state = s; inputs = n })
decimator w N M r c u n s f d calls =
    let first : Counted ℤ = record { state = s; inputs = n } in (
      accepted (after_calls (leaves (signed_ops w)) first calls).state (calls_fit (signed_ops w) first f calls),
      rw (alone (signed_ops w) first f calls) (d (along (leaves (signed_ops w)) reads first calls)),
    )
