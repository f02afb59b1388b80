-- 01: a block, either way, gives the outputs, told counts and state that its steps in turn would give.
use Rattle.std.specs.Prelude.{Bool, true, false, cond, List, [], ◌∷◌, ◌++◌, ℕ, zero, suc, ◌+◌, ◌-◌, ◌/◌, ltb, leb, eqb, length, get_or, take, drop}
use Rattle.std.proofs.Math.Option.{Option, none, some}
use Rattle.sums.specs.Ops.{Ops}
use Rattle.sums.specs.Machine.{Output}
use Rattle.sums.specs.State.{State, refusal}
use Rattle.blocks.specs.Blocks.{unless}
use Rattle.sums.specs.Calls.{step_state, step_given, rise_state, rise_given}

-- Decimating a block of L inputs from countdown c needs 0 outputs if L is at most c, else 1 + floor((L - 1 - c) / R).
unfoldable pub needed : ℕ → ℕ → ℕ → ℕ
needed L c rate = cond (leb L c) 0 (1 + (L - 1 - c) / suc rate)

-- 23: the interpolator block's input is shorter than needed.
unfoldable pub fill_number : {A : Type 0} → State A → List A → List A → ℕ
fill_number s xs out =
    unless (refusal s) (refusal s) (cond (ltb (length xs) (needed (length out) s.countdown s.rate)) 23 0)

-- an output in front, where there is one
abbrev pub join : {A : Type 0} → Option A → List A → List A
join none l = l
join (some y) l = y ∷ l

-- the values of outputs
abbrev pub values : {A : Type 0} → List (Output A) → List A
values [] = []
values (y ∷ l) = y.value ∷ values l

-- what a block tells: the count told with its first output, 0 where it gives none
abbrev pub first_told : {A : Type 0} → List (Output A) → ℕ
first_told [] = 0
first_told (y ∷ l) = y.told

-- the front of a lent slice is written, the rest stays as it was
abbrev pub over : {A : Type 0} → List A → List A → List A
over front l = front ++ drop (length front) l

-- A sample is read exactly where one is due, at countdown 0; later ones stay unread.
abbrev pub due_sample : {A : Type 0} → Ops A → ℕ → List A → Option A
due_sample o zero xs = some (get_or xs 0 o.nil)
due_sample o (suc c) xs = none

abbrev pub unread : {A : Type 0} → ℕ → List A → List A
unread zero xs = drop 1 xs
unread (suc c) xs = xs

module _ {A : Type 0} (o : Ops A) where
  -- The decimator's steps in turn: the outputs with what each tells, and the state at the end.
  unfoldable pub outputs : State A → List A → List (Output A)
  outputs s [] = []
  outputs s (x ∷ xs) = join (step_given o s x) (outputs (step_state o s x) xs)

  unfoldable pub after : State A → List A → State A
  after s [] = s
  after s (x ∷ xs) = after (step_state o s x) xs

  -- The interpolator's steps in turn, n of them.
  unfoldable pub risings : State A → ℕ → List A → List A
  risings s zero xs = []
  risings s (suc n) xs =
      rise_given o s (due_sample o s.countdown xs) ∷ risings (rise_state o s (due_sample o s.countdown xs)) n (unread s.countdown xs)

  unfoldable pub risen_after : State A → ℕ → List A → State A
  risen_after s zero xs = s
  risen_after s (suc n) xs = risen_after (rise_state o s (due_sample o s.countdown xs)) n (unread s.countdown xs)

  -- The interpolator's block fills the slice.
  unfoldable pub fill_state : State A → List A → List A → State A
  fill_state s xs out = unless (fill_number s xs out) s (risen_after s (length out) xs)

  unfoldable pub fill_out : State A → List A → List A → List A
  fill_out s xs out = unless (fill_number s xs out) out (risings s (length out) xs)

-- The settled part of the caller's output block: the written outputs less the first `told`, as the block told. A written count above
-- the block's length is 20 with the empty part; too few written to settle gives the empty part.
unfoldable pub settled_number : {A : Type 0} → List A → ℕ → ℕ
settled_number out written = cond (ltb (length out) written) 20 0

unfoldable pub settled_part : {A : Type 0} → List A → ℕ → ℕ → List A
settled_part out written told = unless (settled_number out written) [] (drop told (take written out))
