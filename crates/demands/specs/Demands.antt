-- Demands 2 and 3, said of `Cic` and of the answers that a caller holds: a few definitions, then the statements, nothing else. Each holds for
-- every width w of word, and is proved in proofs/Demands.antt. What `Decimates` and `Interpolates` ask of outputs and inputs stands in sums,
-- specs/Demands. R is rate + 1.
use Rattle.std.specs.Prelude.{◌≡◌, List, [], ◌∷◌, ◌++◌, ℕ, suc, ◌+◌, ◌-◌, ◌*◌, ℤ, pos, ◌*ℤ◌, take, replicate, Result, Ok, Err, Option, Some, None}
use Rattle.std.specs.Int.{Width}
use Rattle.std.proofs.Math.Option.{some}
use Rattle.std.proofs.Math.ListN.{get_elem?}
use Rattle.blocks.specs.declared.refusal.Refusal as reason
use Rattle.blocks.specs.Refusals.{answer}
use Rattle.sums.specs.Signed.{signed_ops}
use Rattle.sums.specs.State.{refusal}
use Rattle.sums.specs.Calls.{new_number, resume_number, rate_number, gain}
use Rattle.sums.specs.Runs.{fill_out, settled_number, settled_part}
use Rattle.sums.specs.Counted.{Numbered, plain, new_counted, resume_counted, rate_counted, clear_counted, settle_counted}
use Rattle.sums.specs.Counted.{take_state, rise_counted, block_state, block_out, fill_counted}
use Rattle.sums.specs.Demands.{modulo, Contents, Decimates, Interpolates, believed}
use Rattle.shape.specs.declared.runs.Written.{Written}
use Rattle.shape.specs.Answers.{block_wrote, block_read}
use Rattle.lent.specs.declared.steps.Output as declared
use Rattle.lent.specs.Answers.{step_out, rise_out, sample_of}
use Rattle.cic.specs.declared.state.Cic.{Cic}
use Rattle.cic.specs.Reading.{state_of, counted_of}
use Rattle.cic.specs.Answers.{made_of}
use Rattle.cic.specs.InTurn.{output_of}

-- What each call promises: on s it leaves t and answers r, and a block leaves `left` in the slice that was lent.
module _ (w : Width) (s : Cic ℤ) where
  abbrev pub Decimate : ℤ → Cic ℤ → Result (Option (declared.Output ℤ)) reason.Refusal → Type 0
  Decimate x t r = (counted_of t ≡ take_state (signed_ops w) (counted_of s) x) × (r ≡ step_out (signed_ops w) (counted_of s) x)

  abbrev pub DecimateBlock : List ℤ → List ℤ → Cic ℤ → Result Written reason.Refusal → List ℤ → Type 0
  DecimateBlock us lent t r left =
      (counted_of t ≡ block_state (signed_ops w) (counted_of s) us lent) × (r ≡ block_wrote (signed_ops w) (counted_of s) us lent)
      × (left ≡ block_out (signed_ops w) (counted_of s) us lent)

  abbrev pub Interpolate : Option ℤ → Cic ℤ → Result ℤ reason.Refusal → Type 0
  Interpolate x t r =
      (counted_of t ≡ rise_counted (signed_ops w) (counted_of s) (sample_of x)) × (r ≡ rise_out (signed_ops w) (counted_of s) (sample_of x))

  abbrev pub InterpolateBlock : List ℤ → List ℤ → Cic ℤ → Result ℕ reason.Refusal → List ℤ → Type 0
  InterpolateBlock us lent t r left =
      (counted_of t ≡ fill_counted (signed_ops w) (counted_of s) us lent) × (r ≡ block_read (state_of s) us lent)
      × (left ≡ fill_out (signed_ops w) (state_of s) us lent)

  abbrev pub SetRate : ℕ → Cic ℤ → Result (Unit {0}) reason.Refusal → Type 0
  SetRate rate t r = (counted_of t ≡ rate_counted (signed_ops w) (counted_of s) rate) × (r ≡ answer (rate_number (state_of s) rate) tt)

  abbrev pub Clear : Cic ℤ → Result (Unit {0}) reason.Refusal → Type 0
  Clear t r = (counted_of t ≡ clear_counted (signed_ops w) (counted_of s)) × (r ≡ answer (refusal (state_of s)) tt)

  abbrev pub Settle : ℤ → Cic ℤ → Result (Unit {0}) reason.Refusal → Type 0
  Settle x t r = (counted_of t ≡ settle_counted (signed_ops w) (counted_of s) x) × (r ≡ answer (refusal (state_of s)) tt)

-- What a decimator's call took in, by its answer: a refused one nothing.
abbrev pub took_step : Result (Option (declared.Output ℤ)) reason.Refusal → ℤ → List ℤ
took_step (Ok y) x = x ∷ []
took_step (Err k) x = []

abbrev pub took_block : Result Written reason.Refusal → List ℤ → List ℤ
took_block (Ok w) xs = xs
took_block (Err k) xs = []

-- What a block gave: the first of the slice that it leaves, as many as it answers. It tells the count and the number of the first, and the
-- output i places after that counts as told the first's count less i, not below 0, and its number is i · R more. What a step gave is
-- `output_of` its answer.
abbrev pub told_from : ℕ → ℕ → ℕ → List ℤ → List (Numbered ℤ)
told_from R told number [] = []
told_from R told number (y ∷ ys) = record { value = y; told = told; number = number } ∷ told_from R (told - 1) (number + R) ys

abbrev pub gave_block : ℕ → Result Written reason.Refusal → List ℤ → List (Numbered ℤ)
gave_block R (Ok w) left = told_from R w.told w.number (take w.count left)
gave_block R (Err k) left = []

-- What an interpolator's call took in and gave, by its answer: an accepted step the sample that it was given, if any, and one output; an
-- accepted block as many inputs as it answers, and the whole slice.
abbrev pub took_sample : Result ℤ reason.Refusal → Option ℤ → List ℤ
took_sample (Ok y) (Some x) = x ∷ []
took_sample (Ok y) None = []
took_sample (Err k) x = []

abbrev pub gave_sample : Result ℤ reason.Refusal → List ℤ
gave_sample (Ok y) = y ∷ []
gave_sample (Err k) = []

abbrev pub took_fill : Result ℕ reason.Refusal → List ℤ → List ℤ
took_fill (Ok n) xs = take n xs
took_fill (Err k) xs = []

abbrev pub gave_fill : Result ℕ reason.Refusal → List ℤ → List ℤ
gave_fill (Ok n) left = left
gave_fill (Err k) left = []

-- A call of any kind on s, answered as its promise says, and by a refusal; the second state is the one that it leaves.
pub data Refusal (w : Width) : Cic ℤ → Cic ℤ → Type 0 where
  decimate : {s t : Cic ℤ} (x : ℤ) (r : Result (Option (declared.Output ℤ)) reason.Refusal) → Decimate w s x t r → (k : reason.Refusal) → r ≡ Err k
      → Refusal w s t
  decimate_block : {s t : Cic ℤ} (us lent left : List ℤ) (r : Result Written reason.Refusal) → DecimateBlock w s us lent t r left
      → (k : reason.Refusal) → r ≡ Err k → Refusal w s t
  interpolate : {s t : Cic ℤ} (x : Option ℤ) (r : Result ℤ reason.Refusal) → Interpolate w s x t r → (k : reason.Refusal) → r ≡ Err k → Refusal w s t
  interpolate_block : {s t : Cic ℤ} (us lent left : List ℤ) (r : Result ℕ reason.Refusal) → InterpolateBlock w s us lent t r left
      → (k : reason.Refusal) → r ≡ Err k → Refusal w s t
  set_rate : {s t : Cic ℤ} (rate : ℕ) (r : Result (Unit {0}) reason.Refusal) → SetRate w s rate t r → (k : reason.Refusal) → r ≡ Err k
      → Refusal w s t
  clear : {s t : Cic ℤ} (r : Result (Unit {0}) reason.Refusal) → Clear w s t r → (k : reason.Refusal) → r ≡ Err k → Refusal w s t
  settle_interpolate : {s t : Cic ℤ} (x : ℤ) (r : Result (Unit {0}) reason.Refusal) → Settle w s x t r → (k : reason.Refusal) → r ≡ Err k
      → Refusal w s t

-- `decimate` and `decimate_block` in any mixture, each answered as its promise says: from the state s they took in xs, gave ys and left t.
-- Refused calls of any kind may stand between.
pub data Decimating (w : Width) : Cic ℤ → List ℤ → List (Numbered ℤ) → Cic ℤ → Type 0 where
  none : {s : Cic ℤ} → Decimating w s [] [] s
  decimate : {s u t : Cic ℤ} {xs : List ℤ} {ys : List (Numbered ℤ)} (x : ℤ) (r : Result (Option (declared.Output ℤ)) reason.Refusal)
      → Decimate w s x u r → Decimating w u xs ys t → Decimating w s (took_step r x ++ xs) (output_of r ++ ys) t
  decimate_block : {s u t : Cic ℤ} {xs : List ℤ} {ys : List (Numbered ℤ)} (us lent left : List ℤ) (r : Result Written reason.Refusal)
      → DecimateBlock w s us lent u r left → Decimating w u xs ys t
      → Decimating w s (took_block r us ++ xs) (gave_block (suc s.rate) r left ++ ys) t
  refused : {s u t : Cic ℤ} {xs : List ℤ} {ys : List (Numbered ℤ)} → Refusal w s u → Decimating w u xs ys t → Decimating w s xs ys t

-- The same of `interpolate` and `interpolate_block`.
pub data Interpolating (w : Width) : Cic ℤ → List ℤ → List ℤ → Cic ℤ → Type 0 where
  none : {s : Cic ℤ} → Interpolating w s [] [] s
  interpolate : {s u t : Cic ℤ} {xs ys : List ℤ} (x : Option ℤ) (r : Result ℤ reason.Refusal) → Interpolate w s x u r → Interpolating w u xs ys t
      → Interpolating w s (took_sample r x ++ xs) (gave_sample r ++ ys) t
  interpolate_block : {s u t : Cic ℤ} {xs ys : List ℤ} (us lent left : List ℤ) (r : Result ℕ reason.Refusal)
      → InterpolateBlock w s us lent u r left → Interpolating w u xs ys t
      → Interpolating w s (took_fill r us ++ xs) (gave_fill r left ++ ys) t
  refused : {s u t : Cic ℤ} {xs ys : List ℤ} → Refusal w s u → Interpolating w u xs ys t → Interpolating w s xs ys t

-- What a run from s guarantees: the state after it is accepted, so no call of it was refused for its state, and none but by 16 or 20; and
-- the outputs are those of document 01, c inputs before the first, u of them not to be believed, and n inputs taken before.
abbrev pub Decimator : (w : Width) (N M rate c u n : ℕ) → Cic ℤ → Type 0
Decimator w N M rate c u n s =
    (xs : List ℤ) (ys : List (Numbered ℤ)) (t : Cic ℤ) → Decimating w s xs ys t
    → (refusal (state_of t) ≡ 0) × Decimates w N M rate c u n xs ys

abbrev pub Interpolator : (w : Width) (N M rate : ℕ) → Cic ℤ → Type 0
Interpolator w N M rate s =
    (xs ys : List ℤ) (t : Cic ℤ) → Interpolating w s xs ys t
    → (refusal (state_of t) ≡ 0) × Interpolates w N M rate xs ys

-- Demand 2. After an accepted `new`, and after an accepted `clear`, every output is told 0 and is the moving sum, and output k falls on
-- input k · R + 1, which is its number; the interpolator's outputs are the moving sum of the held input.
abbrev pub AfterNew : Type 0
AfterNew =
    (w : Width) (N M rate : ℕ) (s : Cic ℤ) → made_of (new_number N M rate) (new_counted (signed_ops w) N M rate) ≡ Ok s
    → Decimator w N M rate 0 0 0 s × Interpolator w N M rate s

abbrev pub AfterClear : Type 0
AfterClear =
    (w : Width) (s t : Cic ℤ) → Clear w s t (Ok tt)
    → Decimator w s.order s.delay s.rate 0 0 0 t × Interpolator w s.order s.delay s.rate t

-- Demand 3. After an accepted `resume` from any contents the first output falls on input countdown + 1, the first N · M outputs are told
-- N · M down to 1, and every later one is told 0 and is the moving sum of the inputs since the resume alone. Output k's number is the
-- resumed number plus countdown + 1 + k · R.
abbrev pub AfterResume : Type 0
AfterResume =
    (w : Width) (N M rate countdown inputs : ℕ) (integrators combs : List ℤ) (hold : ℤ) (s : Cic ℤ)
    → made_of (resume_number N M rate countdown) (resume_counted (signed_ops w) N M rate integrators combs hold countdown inputs) ≡ Ok s
    → Contents integrators combs
    → Decimator w N M rate countdown (N * M) inputs s

-- The same after an accepted `set_rate`, with the countdown and the number of inputs that it found.
abbrev pub AfterSetRate : Type 0
AfterSetRate =
    (w : Width) (s t : Cic ℤ) (rate : ℕ) → SetRate w s rate t (Ok tt) → Contents s.integrators s.combs
    → Decimator w s.order s.delay rate s.countdown (s.order * s.delay) s.inputs t

-- What `settled` hands back of a block's slice, asked with what the block answered, is the outputs of the block that are told 0; from whatever
-- state, and it isn't refused.
abbrev pub BelievedPart : Type 0
BelievedPart =
    (w : Width) (s t : Cic ℤ) (us lent left : List ℤ) (wrote : Written) → DecimateBlock w s us lent t (Ok wrote) left
    → Contents s.integrators s.combs
    → (settled_number left wrote.count ≡ 0)
    × (settled_part left wrote.count wrote.told ≡ believed (plain (gave_block (suc s.rate) (Ok wrote) left)))

-- After an accepted `settle_interpolate` on x, a run that takes in nothing but x gives x times gain, modulo 2 ^ w, at every step.
abbrev pub AfterSettle : Type 0
AfterSettle =
    (w : Width) (s t : Cic ℤ) (x : ℤ) → Settle w s x t (Ok tt)
    → (n : ℕ) (ys : List ℤ) (u : Cic ℤ) → Interpolating w t (replicate n x) ys u
    → (k : ℕ) (y : ℤ) → get_elem? ys k ≡ some y → y ≡ modulo w s.order (pos (gain (state_of s)) *ℤ x)
