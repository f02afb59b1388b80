-- The ways in which a block call ends, whatever its words: refused by its number, or run. A width puts its records around them.
use Rattle.std.proofs.Common.{◌≡◌, ℕ, suc, ◌+◌, ◌%◌, ◌^◌, ◌<◌, ◌≤◌, cond, eqb, List, [], ◌∷◌, length, sym, refl, ap, ◌∙◌, mod-eq_of_lt, arith, eq-eqb, ne_eqb}
use lib.Dec.{eqb-suc-zero}
use Rattle.sums.specs.Ops.{Ops}
use Rattle.sums.specs.Machine.{Output}
use Rattle.sums.specs.State.{State, refusal}
use Rattle.sums.specs.Runs.{needed, first_told, outputs, fill_number, fill_state, fill_out}
use Rattle.sums.specs.Counted.{Counted, most_inputs, block_number, plain, first_number, taken_outputs, block_state, block_out}
use Rattle.sums.proofs.Counts.{needed_some, outputs-length, block-told}
use Rattle.sums.proofs.Steps.{Fit}
use Rattle.sums.proofs.Numbering.{block_room, tagged, taken-after, taken_tagged, plain-taken}
use Rattle.sums.proofs.Lent.{Ready, DecimateRun, InterpolateRun}
use Rattle.sums.proofs.LentSteps.{fit}
use Rattle.shape.specs.declared.runs.Written.{Written}
use Rattle.std.specs.Prelude.{Result, Ok, Err}
use Rattle.blocks.specs.declared.refusal.Refusal.{Refusal}
use Rattle.blocks.specs.Refusals.{answer}
use Rattle.blocks.proofs.Refusals.{accepted, refused_too, taken_number}
use Rattle.shape.specs.Answers.{read_of, written_of, fill_number_of, block_wrote, block_read}
use Rattle.shape.proofs.Ways.{never}

-- what a block answers, as sums has it
written_by : {A : Type 0} (u n c R : ℕ) (ys : List (Output A)) → first_told ys ≡ cond (eqb (length ys) 0) 0 u
    → (0 < length ys → n + (c + 1) < 2 ^ 64)
    → written_of (length ys) u n c ≡ record { count = length ys; told = first_told ys; number = first_number (tagged (n + c + 1) R ys) }
unfolding written_of tagged
written_by u n c R [] t h = refl
written_by u n c R (y ∷ ys) t h =
    let number : (n + (c + 1)) % 2 ^ 64 ≡ n + c + 1 = mod-eq_of_lt (h (omega arith)) ∙ omega arith in
    let told : y.told ≡ u = rw (eqb-suc-zero (length ys)) at t in
    rw (number, told)

-- the interpolator's
module _ {A : Type 0} (o : Ops A) (s : State A) (xs out : List A) where
  abbrev number : ℕ
  number = fill_number_of (refusal s) (needed (length out) s.countdown s.rate) (length xs)

  pub fill_refuses : {V : Type 0} (v : V) (r : Refusal) → ◌≡◌ {A = Result V Refusal} (Err r) (answer number v)
      → (s ≡ fill_state o s xs out) × (◌≡◌ {A = Result ℕ Refusal} (Err r) (block_read s xs out)) × (out ≡ fill_out o s xs out)
  unfolding fill_state fill_out fill_number
  fill_refuses v r e =
      let h = ne_eqb number 0 (never number v r e) in (rw h, refused_too number v (needed (length out) s.countdown s.rate) r e, rw h)

  pub fill-runs : (w : ℕ) → ◌≡◌ {A = Result ℕ Refusal} (Ok w) (read_of number (needed (length out) s.countdown s.rate))
      → (t : State A) (count : ℕ) (left : List A) → InterpolateRun o s xs out t count left
      → (t ≡ fill_state o s xs out) × (◌≡◌ {A = Result ℕ Refusal} (Ok w) (block_read s xs out)) × (left ≡ fill_out o s xs out)
  unfolding fill_state fill_out fill_number
  fill-runs w e t count left d =
      let z = eq-eqb number 0 (taken_number number _ w e) in (rw z d.state, e, rw z d.wrote)

-- the decimator's
module _ {A : Type 0} (o : Ops A) (c : Counted A) (xs out : List A) where
  pub block_refuses : {V : Type 0} (v : V) (r : Refusal) → ◌≡◌ {A = Result V Refusal} (Err r) (answer (block_number c xs out) v)
      → (c ≡ block_state o c xs out) × (◌≡◌ {A = Result Written Refusal} (Err r) (block_wrote o c xs out)) × (out ≡ block_out o c xs out)
  unfolding block_state block_out
  block_refuses v r e =
      let k = block_number c xs out in
      let h = ne_eqb k 0 (never k v r e) in (rw h, refused_too k v _ r e, rw h)

  -- where it runs: t is the state after it, n the inputs then taken
  module _ (z : block_number c xs out ≡ 0) (r : Ready c.state) (t : State A) (count : ℕ) (left : List A)
      (d : DecimateRun o c.state xs out t count left) where
    abbrev s : State A
    s = c.state

    ok : Fit s
    ok = fit s r

    room : c.inputs + length xs ≤ most_inputs
    room = block_room c xs out z

    written_is : written_of count s.unsettled c.inputs s.countdown
        ≡ record { count = count; told = first_told (plain (taken_outputs o c xs)); number = first_number (taken_outputs o c xs) }
    written_is =
        let long = outputs-length o s ok xs in
        rw (d.count, ← long, plain-taken o c ok xs room, taken_tagged o c ok xs room)
        (written_by s.unsettled c.inputs s.countdown (suc s.rate) (outputs o s xs)
        (block-told o s ok xs ∙ ap (λ n. cond (eqb n 0) 0 s.unsettled) (sym long))
        (λ h. omega (arith, room, needed_some (length xs) s.countdown s.rate (rw long at h))))

    pub block_runs : (w : Written) (n : ℕ) → w ≡ written_of count s.unsettled c.inputs s.countdown → n ≡ c.inputs + length xs
        → (◌≡◌ {A = Counted A} (record { state = t; inputs = n }) (block_state o c xs out)) × (◌≡◌ {A = Result Written Refusal} (Ok w) (block_wrote o c xs out))
        × (left ≡ block_out o c xs out)
    unfolding block_state block_out
    block_runs w n ew ei = (
      rw (z, d.state, ei, taken-after o c ok xs room),
      rw (ew ∙ written_is, d.count) (accepted _ _ z),
      rw (z, plain-taken o c ok xs room) d.wrote,
    )
