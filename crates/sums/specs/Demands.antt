-- What is guaranteed of the decimator and the interpolator, in document 01's words: a few definitions, then the statements, nothing else.
-- Each holds for every width w of word, order N, delay M and rate that is accepted, and is proved in proofs/Demands.antt. R is rate + 1.
use Rattle.std.specs.Prelude.{◌≡◌, true, false, cond, List, [], ◌∷◌, ◌++◌, ℕ, zero, suc, ◌+◌, ◌-◌, ◌*◌, ◌^◌, ◌≤◌, ◌<◌, ltb, eqb, ℤ, pos, negsuc, ◌*ℤ◌, length, get_or, take, replicate}
use Rattle.std.proofs.Math.Option.{Option, some}
use Rattle.std.specs.Int.Signed.{mag}
use Rattle.std.proofs.Math.ListN.{get_elem?}
use Rattle.std.specs.Int.{Width, w32}
use mir.Val.{SFits, bits}
use Rattle.words.specs.Words.{wrap}
use Rattle.sums.specs.Ops.{Ops}
use Rattle.sums.specs.Signed.{signed_ops, exact_ops}
use Rattle.sums.specs.Machine.{Output}
use Rattle.sums.specs.Moving.{moving, held}
use Rattle.sums.specs.State.{State, refusal}
use Rattle.blocks.specs.Blocks.{unless}
use Rattle.sums.specs.Calls.{new_number, resume_number, rate_number, rise_number, new_state, resume_state, clear_state}
use Rattle.sums.specs.Calls.{settle_state, step_state, step_given, rise_state, rise_given, gain, gain_log2, fit_number, fits}
use Rattle.sums.specs.Runs.{needed, join, first_told, fill_number, outputs, risings, fill_state, settled_part}
use Rattle.sums.specs.Counted.{Counted, Numbered, take_number, block_number, plain, first_number, new_counted, resume_counted, rate_counted}
use Rattle.sums.specs.Counted.{clear_counted, take_state, take_given, taken_outputs, block_state, block_out}

-- A list as a sequence, number 0 first and zeros behind it.
abbrev pub input : List ℤ → ℕ → ℤ
input xs t = get_or xs t (pos 0)

-- All sums are modulo 2 ^ w, read as signed. At N = 0 there is no sum: an output is the input itself.
unfoldable pub modulo : Width → ℕ → ℤ → ℤ
modulo w zero z = z
modulo w (suc n) z = wrap w z

-- Calls in turn, each from the state that the one before leaves: what f tells of each, in order, and the state at the end.
unfoldable pub along : {S C X : Type 0} → (S → C → S) → (S → C → List X) → S → List C → List X
along next f s [] = []
along next f s (c ∷ cs) = f s c ++ along next f (next s c) cs

unfoldable pub after_calls : {S C : Type 0} → (S → C → S) → S → List C → S
after_calls next s [] = s
after_calls next s (c ∷ cs) = after_calls next (next s c) cs

-- A decimator's call: a step on one input, or a block of inputs with the slice that is lent for its outputs.
pub data Call : Type 0 where
  step : ℤ → Call
  block : List ℤ → List ℤ → Call

-- An interpolator's call: a step with a sample or with none, or a block: samples, and the slice that is to be filled.
pub data Raise : Type 0 where
  rise : Option ℤ → Raise
  fill : List ℤ → List ℤ → Raise

-- What a call reads. A refused call is no step: it reads and gives nothing and leaves the state.
unfoldable pub reads : Counted ℤ → Call → List ℤ
reads s (step x) = unless (take_number s 1) [] (x ∷ [])
reads s (block xs out) = unless (block_number s xs out) [] xs

unfoldable pub samples : State ℤ → Raise → List ℤ
samples s (rise x) = unless (rise_number s x) [] (join x [])
samples s (fill xs out) = unless (fill_number s xs out) [] (take (needed (length out) s.countdown s.rate) xs)

module _ (o : Ops ℤ) where
  -- What it leaves, and what it gives.
  unfoldable pub leaves : Counted ℤ → Call → Counted ℤ
  leaves s (step x) = take_state o s x
  leaves s (block xs out) = block_state o s xs out

  unfoldable pub gives : Counted ℤ → Call → List (Numbered ℤ)
  gives s (step x) = join (take_given o s x) []
  gives s (block xs out) = unless (block_number s xs out) [] (taken_outputs o s xs)

  unfoldable pub lifts : State ℤ → Raise → State ℤ
  lifts s (rise x) = rise_state o s x
  lifts s (fill xs out) = fill_state o s xs out

  unfoldable pub yields : State ℤ → Raise → List ℤ
  yields s (rise x) = unless (rise_number s x) [] (rise_given o s x ∷ [])
  yields s (fill xs out) = unless (fill_number s xs out) [] (risings o s (length out) xs)

-- What the outputs ys are to the inputs xs, where the first output is due after c inputs, the first u aren't to be believed and n inputs
-- were taken before.
pub record Decimates (w : Width) (N M rate c u n : ℕ) (xs : List ℤ) (ys : List (Numbered ℤ)) : Type 0 where
  -- Output number k, from 0, falls on input number c + k · R + 1, counted from 1: it is there exactly when that input is.
  -- There are no other outputs.
  pub falls : (k : ℕ) → ltb k (length ys) ≡ ltb (c + k * suc rate) (length xs)
  -- Its number is n more than that.
  pub numbers : (k : ℕ) (y : Numbered ℤ) → get_elem? ys k ≡ some y → y.number ≡ n + (c + k * suc rate + 1)
  -- It tells u less the outputs before it, not below 0.
  pub tells : (k : ℕ) (y : Numbered ℤ) → get_elem? ys k ≡ some y → y.told ≡ u - k
  -- Where it is told 0, it is the N-fold moving sum of the inputs, modulo 2 ^ w.
  pub sums : (k : ℕ) (y : Numbered ℤ) → get_elem? ys k ≡ some y → y.told ≡ 0
      → y.value ≡ modulo w N (moving exact_ops (suc rate * M) N (input xs) (c + k * suc rate))

-- Decimator steps and blocks alone, in any mixture, from the state s on: none is refused but a block whose slice is too short, or a step
-- or block past 2 ^ 64 - 1.
abbrev pub Decimator : (w : Width) (N M rate c u n : ℕ) → Counted ℤ → Type 0
Decimator w N M rate c u n s =
    (calls : List Call)
    → (refusal (after_calls (leaves (signed_ops w)) s calls).state ≡ 0)
    × Decimates w N M rate c u n (along (leaves (signed_ops w)) reads s calls)
    (along (leaves (signed_ops w)) (gives (signed_ops w)) s calls)

-- What the outputs ys are to the samples xs: one sample is read for each R outputs, and each output is the moving sum of the held input.
pub record Interpolates (w : Width) (N M rate : ℕ) (xs ys : List ℤ) : Type 0 where
  pub counts : length xs ≡ needed (length ys) 0 rate
  pub sums : (t : ℕ) (y : ℤ) → get_elem? ys t ≡ some y → y ≡ modulo w N (moving exact_ops (suc rate * M) N (held (suc rate) (input xs)) t)

-- Interpolator steps and blocks alone, in any mixture, from the state s on: none is refused but where a sample is missing or isn't due.
abbrev pub Interpolator : (w : Width) (N M rate : ℕ) → State ℤ → Type 0
Interpolator w N M rate s =
    (calls : List Raise)
    → (refusal (after_calls (lifts (signed_ops w)) s calls) ≡ 0)
    × Interpolates w N M rate (along (lifts (signed_ops w)) samples s calls) (along (lifts (signed_ops w)) (yields (signed_ops w)) s calls)

-- Contents: 8 integrators and 64 comb cells, whatever they are.
pub record Contents (integrators combs : List ℤ) : Type 0 where
  pub long8 : length integrators ≡ 8
  pub long64 : length combs ≡ 64

-- Demand 2, the moving sum. From a new state, and from a cleared one, every output is told 0 and is the moving sum, and output k falls on
-- input k · R + 1, which is its number; the interpolator's outputs are the moving sum of the held input.
abbrev pub Demand2 : Type 0
Demand2 =
    (w : Width) (N M rate : ℕ) → new_number N M rate ≡ 0
    → Decimator w N M rate 0 0 0 (new_counted (signed_ops w) N M rate) × Interpolator w N M rate (new_state (signed_ops w) N M rate)

abbrev pub Demand2Cleared : Type 0
Demand2Cleared =
    (w : Width) (c : Counted ℤ) → let s = c.state in refusal s ≡ 0
    → Decimator w s.order s.delay s.rate 0 0 0 (clear_counted (signed_ops w) c)
    × Interpolator w s.order s.delay s.rate (clear_state (signed_ops w) s)

-- Demand 3, settling. After a resume from any contents the first output falls on input countdown + 1, the first N · M outputs are
-- told N · M down to 1, and every later one is told 0 and is the moving sum of the inputs since the resume alone. Output k's number is the
-- resumed number plus countdown + 1 + k · R.
abbrev pub Demand3 : Type 0
Demand3 =
    (w : Width) (N M rate countdown inputs : ℕ) (integrators combs : List ℤ) (hold : ℤ)
    → resume_number N M rate countdown ≡ 0 → Contents integrators combs
    → Decimator w N M rate countdown (N * M) inputs (resume_counted (signed_ops w) N M rate integrators combs hold countdown inputs)

-- The same after an accepted set_rate, with the countdown and the number of inputs that it found.
abbrev pub Demand3Rate : Type 0
Demand3Rate =
    (w : Width) (c : Counted ℤ) (rate : ℕ) → let s = c.state in rate_number s rate ≡ 0 → Contents s.integrators s.combs
    → Decimator w s.order s.delay rate s.countdown (s.order * s.delay) c.inputs (rate_counted (signed_ops w) c rate)

-- In a block, from whatever state, the output i places after the first is told the first's count less i, not below 0, and its number is
-- i · R more than the first's.
abbrev pub ToldInBlock : Type 0
ToldInBlock =
    (w : Width) (c : Counted ℤ) (xs out : List ℤ) → Contents c.state.integrators c.state.combs → block_number c xs out ≡ 0
    → let ys = taken_outputs (signed_ops w) c xs in
    (i : ℕ) (y : Numbered ℤ) → get_elem? ys i ≡ some y
    → (y.told ≡ first_told (plain ys) - i) × (y.number ≡ first_number ys + i * suc c.state.rate)

-- The settled part of a block's slice, taken from what the block told, is its outputs that are told 0, from whatever state.
abbrev pub believed : List (Output ℤ) → List ℤ
believed [] = []
believed (y ∷ ys) = cond (eqb y.told 0) (y.value ∷ believed ys) (believed ys)

abbrev pub SettledPart : Type 0
SettledPart =
    (w : Width) (c : Counted ℤ) (xs out : List ℤ) → Contents c.state.integrators c.state.combs → block_number c xs out ≡ 0
    → let ys = plain (taken_outputs (signed_ops w) c xs) in
    settled_part (block_out (signed_ops w) c xs out) (length ys) (first_told ys) ≡ believed ys

-- N · M can't be lowered: for every order above 0 there are contents and inputs, all of them words, for which output number N · M, counted
-- from 1, is not the moving sum.
abbrev pub InWord : Width → List ℤ → Type 0
InWord w xs = (t : ℕ) → SFits w (input xs t)

pub record Misleads (w : Width) (N M rate countdown : ℕ) : Type 0 where
  pub integrators : List ℤ
  pub combs : List ℤ
  pub contents : Contents integrators combs
  pub integrators_in : InWord w integrators
  pub combs_in : InWord w combs
  pub inputs : List ℤ
  pub inputs_in : InWord w inputs
  pub given : Output ℤ
  pub is_given : get_elem? (outputs (signed_ops w) (resume_state (signed_ops w) N M rate integrators combs (pos 0) countdown) inputs)
      (N * M - 1) ≡ some given
  pub differs : given.value ≡ modulo w N (moving exact_ops (suc rate * M) N (input inputs) (countdown + (N * M - 1) * suc rate)) → ⊥

abbrev pub Demand3Tight : Type 0
Demand3Tight = (w : Width) (N M rate countdown : ℕ) → resume_number N M rate countdown ≡ 0 → 1 ≤ N → Misleads w N M rate countdown

-- The demands are of decimator calls alone: an interpolator's step leaves the unsettled count, and a decimator's output after it can be
-- told 0 without being the moving sum. From new, N 1, M 2, rate 0: an interpolator's step on 1 and a decimator's step on 0 give 1,
-- where the moving sum is 0; and so after decimator's steps on 1 and 0, an interpolator's step on 0 and a decimator's step on 0 there
-- comes -1.
abbrev pub Between : Type 0
Between =
    let o : Ops ℤ = signed_ops w32 in
    let new : State ℤ = new_state o 1 2 0 in
    (step_given o (rise_state o new (some (pos 1))) (pos 0) ≡ some (record { value = pos 1; told = 0 }))
    × (moving exact_ops 2 1 (input (pos 0 ∷ [])) 0 ≡ pos 0)
    × (step_given o (rise_state o (step_state o (step_state o new (pos 1)) (pos 0)) (some (pos 0))) (pos 0)
    ≡ some (record { value = negsuc 0; told = 0 }))
    × (moving exact_ops 2 1 (input (pos 1 ∷ pos 0 ∷ pos 0 ∷ [])) 2 ≡ pos 0)
    × (moving exact_ops 2 1 (input (pos 1 ∷ pos 0 ∷ pos 0 ∷ pos 0 ∷ [])) 3 ≡ pos 0)

-- gain_log2 bounds the gain.
abbrev pub GainBound : Type 0
GainBound = (s : State ℤ) → refusal s ≡ 0 → gain s ≤ 2 ^ gain_log2 s

-- 02, A5: fit, both ways. Inputs of b signed bits are - 2 ^ (b - 1) .. 2 ^ (b - 1) - 1.
abbrev pub InBits : ℕ → List ℤ → Type 0
InBits b xs = (t : ℕ) → mag (input xs t) < 2 ^ (b - 1)

-- Decimator calls from the state s on, whose first output is due after c inputs: an output that is told 0 is the moving sum itself.
abbrev pub Whole : (w : Width) (N M rate c b : ℕ) → Counted ℤ → Type 0
Whole w N M rate c b s =
    (calls : List Call) → let read = along (leaves (signed_ops w)) reads s calls in InBits b read
    → (k : ℕ) (y : Numbered ℤ) → get_elem? (along (leaves (signed_ops w)) (gives (signed_ops w)) s calls) k ≡ some y → y.told ≡ 0
    → y.value ≡ moving exact_ops (suc rate * M) N (input read) (c + k * suc rate)

-- Interpolator calls from the state s on: every output is the moving sum of the held input itself.
abbrev pub WholeRisen : (w : Width) (N M rate b : ℕ) → State ℤ → Type 0
WholeRisen w N M rate b s =
    (calls : List Raise) → let read = along (lifts (signed_ops w)) samples s calls in InBits b read
    → (t : ℕ) (y : ℤ) → get_elem? (along (lifts (signed_ops w)) (yields (signed_ops w)) s calls) t ≡ some y
    → y ≡ moving exact_ops (suc rate * M) N (held (suc rate) (input read)) t

-- Where the answer for b is yes, no output wraps: none from zero, where each is told 0 (Demand2Cleared), and none that has settled after a
-- resume from any contents.
abbrev pub FitSound : Type 0
FitSound =
    (w : Width) (c : Counted ℤ) (b : ℕ) → let s = c.state in fit_number s (bits w) b ≡ 0 → fits s (bits w) b ≡ true
    → Whole w s.order s.delay s.rate 0 b (clear_counted (signed_ops w) c)
    × WholeRisen w s.order s.delay s.rate b (clear_state (signed_ops w) s)
    × ((countdown inputs : ℕ) (integrators combs : List ℤ) (hold : ℤ)
    → resume_number s.order s.delay s.rate countdown ≡ 0 → Contents integrators combs
    → Whole w s.order s.delay s.rate countdown b
    (resume_counted (signed_ops w) s.order s.delay s.rate integrators combs hold countdown inputs))

-- Where it is no, there are inputs of b signed bits and an output from zero that isn't the moving sum: it wraps.
pub record Wraps (w : Width) (c : Counted ℤ) (b : ℕ) : Type 0 where
  pub inputs : List ℤ
  pub inputs_in : InBits b inputs
  pub number : ℕ
  pub given : Numbered ℤ
  pub is_given : get_elem? (taken_outputs (signed_ops w) (clear_counted (signed_ops w) c) inputs) number ≡ some given
  pub differs : let s = c.state in given.value
      ≡ moving exact_ops (suc s.rate * s.delay) s.order (input inputs) (number * suc s.rate) → ⊥

abbrev pub FitTight : Type 0
FitTight =
    (w : Width) (c : Counted ℤ) (b : ℕ) → let s = c.state in fit_number s (bits w) b ≡ 0 → fits s (bits w) b ≡ false → Wraps w c b

-- After settle_interpolate on x, interpolator calls whose samples are all x give x times gain, modulo 2 ^ w, at every step.
abbrev pub Stream : Width → State ℤ → ℤ → ℤ → Type 0
Stream w s x v =
    (calls : List Raise) (n : ℕ) → along (lifts (signed_ops w)) samples s calls ≡ replicate n x
    → (t : ℕ) (y : ℤ) → get_elem? (along (lifts (signed_ops w)) (yields (signed_ops w)) s calls) t ≡ some y → y ≡ v

abbrev pub Settled : Type 0
Settled =
    (w : Width) (s : State ℤ) (x : ℤ) → refusal s ≡ 0
    → Stream w (settle_state (signed_ops w) s x) x (modulo w s.order (pos (gain s) *ℤ x))
