-- The inputs' numbers: a run that has room for its inputs gives the state's own outputs, each R inputs after the one before. So 16 is
-- looked at here alone, and what is known of the outputs is carried over to them with their numbers.
use mathlib.Core.Path.{◌≡◌, refl, sym, ap, ap₂, ◌∙◌}
use mathlib.Core.List.{List, [], ◌∷◌, ◌++◌}
use mathlib.Core.Logic.{⊎_elim}
use mathlib.Core.Option.{Option, none, some, some-injective}
use Prim.Native.Nat.{ℕ, zero, suc, ◌+◌, ◌-◌, ◌*◌, ◌^◌, ◌<◌, ◌≤◌}
use native.Mathlib.Nat.{add-zero}
use native.Mathlib.Omega.{arith}
use mathlib.Core.Bool.{cond}
use lib.Dec.{ltb}
use lib.ListN.{length, get_elem?}
use borrow.Author.Tests.{le-ltb, ltb-false}
use Rattle.blocks.specs.Blocks.{unless}
use Rattle.sums.specs.Ops.{Ops}
use Rattle.sums.specs.Machine.{Output}
use Rattle.sums.specs.State.{State, refusal}
use Rattle.sums.specs.Calls.{step_state, step_given}
use Rattle.sums.specs.Runs.{needed, join, outputs, after}
use Rattle.sums.specs.Counted.{Counted, Numbered, most_inputs, take_number, take_number_of, block_number, block_number_of, with_number}
use Rattle.sums.specs.Counted.{plain, first_number, take_state, take_given, taken_outputs, taken_after}
use Rattle.sums.proofs.Refusals.{both_zero, passed}
use Rattle.sums.proofs.Loops.{part_sum, part_comb}
use Rattle.sums.proofs.Counts.{outputs-length}
use Rattle.sums.proofs.Steps.{Fit, accepted, down, step_waits, given_waits, step_gives, given-gives, step_fit}

-- a call that is accepted has an accepted state, and room for its inputs
module _ {A : Type 0} (c : Counted A) where
  pub take_accepts : (more : ℕ) → take_number c more ≡ 0 → refusal c.state ≡ 0
  unfolding take_number_of
  take_accepts more e = (both_zero (refusal c.state) _ e).0

  pub take-room : (more : ℕ) → take_number c more ≡ 0 → c.inputs + more ≤ most_inputs
  unfolding take_number_of
  take-room more e =
      ltb-false most_inputs (c.inputs + more) (passed (ltb most_inputs (c.inputs + more)) 15 0 (both_zero (refusal c.state) _ e).1)

  module _ (xs out : List A) (e : block_number c xs out ≡ 0) where
    block_takes : take_number c (length xs) ≡ 0
    unfolding block_number_of
    block_takes = (both_zero (take_number c (length xs)) _ e).0

    pub block_accepts : refusal c.state ≡ 0
    block_accepts = take_accepts (length xs) block_takes

    pub block_room : c.inputs + length xs ≤ most_inputs
    block_room = take-room (length xs) block_takes

    pub block_enough : needed (length xs) c.state.countdown c.state.rate ≤ length out
    unfolding block_number_of
    block_enough =
        let need : ℕ = needed (length xs) c.state.countdown c.state.rate in
        ltb-false (length out) need (passed (ltb (length out) need) 19 0 (both_zero (take_number c (length xs)) _ e).1)

-- an interpolator's block that is accepted, of a state whose own number is k, has samples enough
pub fill_accepts : (k need len : ℕ) → unless k k (cond (ltb len need) 23 0) ≡ 0 → (k ≡ 0) × (need ≤ len)
fill_accepts k need len e = let both = both_zero k _ e in (both.0, ltb-false len need (passed (ltb len need) 22 0 both.1))

-- outputs with numbers from n on, R apart
unfoldable pub tagged : {A : Type 0} → ℕ → ℕ → List (Output A) → List (Numbered A)
tagged n R [] = []
tagged n R (y ∷ l) = record { value = y.value; told = y.told; number = n } ∷ tagged (n + R) R l

join-append : {A : Type 0} (g : Option A) (l k : List A) → join g l ++ k ≡ join g (l ++ k)
join-append none l k = refl
join-append (some y) l k = refl

module _ {A : Type 0} (o : Ops A) where
  -- the steps in turn, with no test of the count: n inputs were taken before
  unfoldable pub numbering : ℕ → State A → List A → List (Numbered A)
  numbering n s [] = []
  numbering n s (x ∷ xs) = join (with_number (suc n) (step_given o s x)) (numbering (suc n) (step_state o s x) xs)

  pub numbering_append : (n : ℕ) (s : State A) (xs ys : List A)
      → numbering n s (xs ++ ys) ≡ numbering n s xs ++ numbering (n + length xs) (after o s xs) ys
  unfolding numbering after
  numbering_append n s [] ys = ap (λ k. numbering k s ys) (sym (add-zero n))
  numbering_append n s (x ∷ xs) ys =
      let e : suc n + length xs ≡ n + suc (length xs) = omega arith in
      let t : State A = step_state o s x in
      let g : Option (Numbered A) = with_number (suc n) (step_given o s x) in
      ap (join g) (numbering_append (suc n) t xs ys ∙ ap (λ k. numbering (suc n) t xs ++ numbering k (after o t xs) ys) e)
      ∙ sym (join-append g (numbering (suc n) t xs) (numbering (n + suc (length xs)) (after o t xs) ys))

  -- output k's input has the number n + countdown + 1 + k R
  pub numbering_is : (n : ℕ) (s : State A) → Fit s → (xs : List A)
      → numbering n s xs ≡ tagged (n + s.countdown + 1) (suc s.rate) (outputs o s xs)
  unfolding numbering outputs tagged
  numbering_is n s f [] = refl
  numbering_is n s f (x ∷ xs) =
      let t : State A = step_state o s x in
      let on = numbering_is (suc n) t (step_fit o s f x) xs in
      ⊎_elim
      (λ e.
      let a : suc n ≡ n + s.countdown + 1 = omega arith in
      let b : suc n + s.rate + 1 ≡ n + s.countdown + 1 + suc s.rate = omega arith in
      let v : A = part_comb o s.delay s.order s.combs (part_sum o s.order s.integrators x) in
      rw (given-gives o s f x e)
      (ap₂ (λ k l. record { value = v; told = s.unsettled; number = k } ∷ l) a
      (on ∙ ap (λ q. tagged (suc n + q.countdown + 1) (suc q.rate) (outputs o t xs)) (step_gives o s f x e)
      ∙ ap (λ k. tagged k (suc s.rate) (outputs o t xs)) b)))
      (λ h.
      let b : suc n + (s.countdown - 1) + 1 ≡ n + s.countdown + 1 = omega arith in
      rw (given_waits o s f x h)
      (on ∙ ap (λ q. tagged (suc n + q.countdown + 1) (suc q.rate) (outputs o t xs)) (step_waits o s f x h)
      ∙ ap (λ k. tagged k (suc s.rate) (outputs o t xs)) b))
      (down s.countdown)

  -- a run that has room is those steps
  open_step : (c : Counted A) → Fit c.state → c.inputs < most_inputs → take_number c 1 ≡ 0
  unfolding take_number_of
  open_step c f h = rw (accepted c.state f, le-ltb most_inputs (c.inputs + 1) (omega arith))

  pub taken_numbering : (c : Counted A) → Fit c.state → (xs : List A) → c.inputs + length xs ≤ most_inputs
      → taken_outputs o c xs ≡ numbering c.inputs c.state xs
  unfolding taken_outputs numbering take_state take_given
  taken_numbering c f [] h = refl
  taken_numbering c f (x ∷ xs) h =
      rw (open_step c f (omega arith))
      (ap (join (with_number (suc c.inputs) (step_given o c.state x)))
      (taken_numbering (record { state = step_state o c.state x; inputs = suc c.inputs }) (step_fit o c.state f x) xs (omega arith)))

  pub taken-after : (c : Counted A) → Fit c.state → (xs : List A) → c.inputs + length xs ≤ most_inputs
      → taken_after o c xs ≡ record { state = after o c.state xs; inputs = c.inputs + length xs }
  unfolding taken_after after take_state
  taken-after c f [] h = rw (add-zero c.inputs)
  taken-after c f (x ∷ xs) h =
      let e : suc c.inputs + length xs ≡ c.inputs + suc (length xs) = omega arith in
      rw (open_step c f (omega arith))
      (taken-after (record { state = step_state o c.state x; inputs = suc c.inputs }) (step_fit o c.state f x) xs (omega arith)
      ∙ ap (λ k. record { state = after o (step_state o c.state x) xs; inputs = k }) e)

  pub taken_tagged : (c : Counted A) → Fit c.state → (xs : List A) → c.inputs + length xs ≤ most_inputs
      → taken_outputs o c xs ≡ tagged (c.inputs + c.state.countdown + 1) (suc c.state.rate) (outputs o c.state xs)
  taken_tagged c f xs h = taken_numbering c f xs h ∙ numbering_is c.inputs c.state f xs

-- tagged outputs without their numbers
pub plain_tagged : {A : Type 0} (n R : ℕ) (ys : List (Output A)) → plain (tagged n R ys) ≡ ys
unfolding tagged
plain_tagged n R [] = refl
plain_tagged n R (y ∷ ys) = ap (λ l. y ∷ l) (plain_tagged (n + R) R ys)

pub plain-taken : {A : Type 0} (o : Ops A) (c : Counted A) → Fit c.state → (xs : List A) → c.inputs + length xs ≤ most_inputs
    → plain (taken_outputs o c xs) ≡ outputs o c.state xs
plain-taken o c f xs h = ap plain (taken_tagged o c f xs h) ∙ plain_tagged _ _ (outputs o c.state xs)

pub tagged_length : {A : Type 0} (n R : ℕ) (ys : List (Output A)) → length (tagged n R ys) ≡ length ys
unfolding tagged
tagged_length n R [] = refl
tagged_length n R (y ∷ ys) = ap suc (tagged_length (n + R) R ys)

pub taken-length : {A : Type 0} (o : Ops A) (c : Counted A) → Fit c.state → (xs : List A) → c.inputs + length xs ≤ most_inputs
    → length (taken_outputs o c xs) ≡ needed (length xs) c.state.countdown c.state.rate
taken-length o c f xs h =
    ap length (taken_tagged o c f xs h) ∙ tagged_length _ _ (outputs o c.state xs) ∙ outputs-length o c.state f xs

-- an element of them: the output that it is, and its number
pub record Tags {A : Type 0} (n R : ℕ) (ys : List (Output A)) (k : ℕ) (z : Numbered A) : Type 0 where
  pub there : get_elem? ys k ≡ some (record { value = z.value; told = z.told })
  pub number : z.number ≡ n + k * R

pub elem_tagged : {A : Type 0} (n R : ℕ) (ys : List (Output A)) (k : ℕ) (z : Numbered A) → get_elem? (tagged n R ys) k ≡ some z
    → Tags n R ys k z
unfolding tagged
elem_tagged n R [] k z e = let z : ◌≡◌ {A = ℕ} 0 1 = cc in absurd (omega arith)
elem_tagged n R (y ∷ ys) zero z e =
    let q = some-injective _ z e in
    record { there = ap (λ r. some (record { value = r.value; told = r.told })) q; number = sym (ap (λ r. r.number) q) ∙ omega arith }
elem_tagged n R (y ∷ ys) (suc k) z e =
    let t = elem_tagged (n + R) R ys k z e in record { there = t.there; number = t.number ∙ omega arith }

-- the first one's number, where there is one
pub first_tagged : {A : Type 0} (n R : ℕ) (ys : List (Output A)) → 0 < length ys → first_number (tagged n R ys) ≡ n
unfolding tagged
first_tagged n R [] h = absurd (omega arith)
first_tagged n R (y ∷ ys) h = refl
