-- A one-to-one block call: its refusals, its state and every element of the slice that is lent to it.
use Rattle.std.specs.Prelude.{◌≡◌, cond, List, ◌++◌, ℕ, eqb, length, take, drop, Result}
use Rattle.blocks.specs.declared.refusal.Refusal.{Refusal}
use Rattle.blocks.specs.Refusals.{answer}
use Rattle.blocks.specs.Scan.{scan, ends}

-- 01, refusal 31: slices of a one-to-one block differ in length. It comes before the filter's own number, k.
abbrev pub lengths_number : {A B : Type 0} → ℕ → List A → List B → ℕ
lengths_number k xs ys = cond (eqb (length xs) (length ys)) k 31

-- what stays where the call is refused, and what comes where it is not
abbrev pub unless : {A : Type 0} → ℕ → A → A → A
unless k stays comes = cond (eqb k 0) comes stays

-- The steps from s over xs, one after the other, end in the state t and give zs.
abbrev pub Ran : {S A B : Type 0} → (S → A → B) → (S → A → S) → S → List A → S → List B → Type 0
Ran out next s xs t zs = (t ≡ ends out next s xs) × (zs ≡ scan out next s xs)

-- The steps go on as long as there is an input and a place for its output; what is left of the lent slice stays.
pub record Fed {S A B : Type 0} (out : S → A → B) (next : S → A → S) (s : S) (xs : List A) (ys : List B) (t : S) (zs : List B) : Type 0 where
  pub state : t ≡ ends out next s (take (length ys) xs)
  pub written : zs ≡ scan out next s (take (length ys) xs) ++ drop (length xs) ys

-- The call on state s, inputs xs and lent slice ys leaves the state t, answers r and leaves zs in the slice.
-- k is the filter's own refusal. A refused block leaves the state and writes nothing.
pub record Blocked {S A B : Type 0} (k : ℕ) (out : S → A → B) (next : S → A → S) (s : S) (xs : List A) (ys : List B)
    (t : S) (r : Result (Unit {0}) Refusal) (zs : List B) : Type 0 where
  pub verdict : r ≡ answer (lengths_number k xs ys) tt
  pub state : t ≡ unless (lengths_number k xs ys) s (ends out next s xs)
  pub written : zs ≡ unless (lengths_number k xs ys) ys (scan out next s xs)

-- 01, 'Promises that bite': any two results that the promise allows are equal.
abbrev pub BlockSettled : Type 1
BlockSettled = (S A B : Type 0) (k : ℕ) (out : S → A → B) (next : S → A → S) (s t u : S) (xs : List A) (ys zs ws : List B)
    (v w : Result (Unit {0}) Refusal) → Blocked k out next s xs ys t v zs → Blocked k out next s xs ys u w ws
    → (t ≡ u) × ((v ≡ w) × (zs ≡ ws))
