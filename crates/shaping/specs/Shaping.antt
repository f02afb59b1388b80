-- 02, A14: what the clock stage really does, said of the outputs that `Dsm::process` and `Dsm::block` give.
use Rattle.std.specs.Prelude.{◌≡◌, List, [], ◌∷◌, ◌++◌, ℕ, zero, suc, ◌+◌, ◌-◌, ◌^◌, ◌≤◌, ◌<◌, ℤ, pos, nat_abs, ◌-ℤ◌, ◌*ℤ◌, length, take, get_or, Result, Ok, Err}
use Rattle.blocks.specs.declared.refusal.Refusal.{Refusal}
use Rattle.dsm.specs.declared.Dsm.{Dsm}
use Rattle.dsm.specs.Calls.{modulator_of, Steps, Runs}
use Rattle.shaping.specs.Totals.{modulated, modulator_after}

-- What a call took in and gave out, by its answer: a refused one nothing.
abbrev pub took_in : Result ℤ Refusal → ℕ → List ℕ
took_in (Ok y) x = x ∷ []
took_in (Err r) x = []

abbrev pub gave_out : Result ℤ Refusal → List ℤ
gave_out (Ok y) = y ∷ []
gave_out (Err r) = []

abbrev pub when_done : {A : Type 0} → Result (Unit {0}) Refusal → List A → List A
when_done (Ok v) l = l
when_done (Err r) l = []

-- Steps and blocks in any mixture, each answered as its promise says: from the state s they took in xs, gave out ys and left t.
pub data Called : Dsm → List ℕ → List ℤ → Dsm → Type 0 where
  none : {s : Dsm} → Called s [] [] s
  step : {s t : Dsm} {xs : List ℕ} {ys : List ℤ} (x : ℕ) (u : Dsm) (r : Result ℤ Refusal) → Steps s x u r → Called u xs ys t
      → Called s (took_in r x ++ xs) (gave_out r ++ ys) t
  block : {s t : Dsm} {xs : List ℕ} {ys : List ℤ} (us : List ℕ) (lent : List ℤ) (u : Dsm) (r : Result (Unit {0}) Refusal) (zs : List ℤ)
      → Runs s us lent u r zs → Called u xs ys t → Called s (when_done r us ++ xs) (when_done r zs ++ ys) t

-- From zero: as `Dsm::new` gives it.
pub record FromZero (K : ℕ) (xs : List ℕ) (ys : List ℤ) (t : Dsm) : Type 0 where
  pub start : Dsm
  pub made : modulator_of K ≡ Ok start
  pub called : Called start xs ys t

-- Whatever the mixture, the outputs and the state after are those of one list of steps.
abbrev pub OneList : Type 0
OneList = (K : ℕ) (xs : List ℕ) (ys : List ℤ) (t : Dsm) → K ≤ 8 → FromZero K xs ys t → (ys ≡ modulated K xs) × (t ≡ modulator_after K xs)

-- The last accumulator after input number n, from 0; that of the state t after all of them is the last of these.
abbrev pub last_accumulator : Dsm → ℕ
last_accumulator s = get_or s.accumulators (s.order - 1) 0

abbrev pub accumulator_at : ℕ → List ℕ → ℕ → ℤ
accumulator_at K xs n = pos (last_accumulator (modulator_after K (take (suc n) xs)))

-- The backward difference, with zeros before the start, and the K-th.
abbrev pub backward : (ℕ → ℤ) → ℕ → ℤ
backward g zero = g zero
backward g (suc n) = g (suc n) -ℤ g n

abbrev pub backwards : ℕ → (ℕ → ℤ) → ℕ → ℤ
backwards zero g = g
backwards (suc k) g = backward (backwards k g)

-- From zero, for every order K of 1 .. 8 and every input list, 2 ^ 32 times each output equals that input minus the K-th backward
-- difference of the last accumulator, with zeros before the start.
abbrev pub NoiseShaped : Type 0
NoiseShaped = (K : ℕ) (xs : List ℕ) (ys : List ℤ) (t : Dsm) → 1 ≤ K → K ≤ 8 → FromZero K xs ys t → (n : ℕ) → n < length xs
    → pos (2 ^ 32) *ℤ get_or ys n (pos 0) ≡ pos (get_or xs n 0) -ℤ backwards K (accumulator_at K xs) n

-- Each output times 2 ^ 32 lies strictly within 2 ^ (32 + K - 1) of its input.
abbrev pub NearInput : Type 0
NearInput = (K : ℕ) (xs : List ℕ) (ys : List ℤ) (t : Dsm) → 1 ≤ K → K ≤ 8 → FromZero K xs ys t → (n : ℕ) → n < length xs
    → nat_abs (pos (2 ^ 32) *ℤ get_or ys n (pos 0) -ℤ pos (get_or xs n 0)) < 2 ^ (32 + K - 1)
