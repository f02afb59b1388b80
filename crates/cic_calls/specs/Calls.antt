-- A call on the lent filter s leaves the filter t and answers r: what the call of the same name on a `Cic` leaves and answers. A refused call
-- leaves everything as it was, and so does a refused maker, which has a filter of its caller's to leave.
use Rattle.std.specs.Prelude.{cond, ◌≡◌, List, ℕ, ◌-◌, ◌+◌, eqb, length, take, drop, Ok, Option, Some}
use Rattle.blocks.specs.Blocks.{unless}
use Rattle.sums.specs.Ops.{Ops}
use Rattle.sums.specs.State.{refusal}
use Rattle.sums.specs.Calls.{new_number, resume_number, rate_number, current_at}
use Rattle.sums.specs.Runs.{fill_out, settled_number, settled_part}
use Rattle.sums.specs.Counted.{new_counted, resume_counted, rate_counted, clear_counted, settle_counted}
use Rattle.sums.specs.Counted.{take_state, rise_counted, block_state, block_out, fill_counted}
use Rattle.shape.specs.declared.runs.Written.{Written}
use Rattle.shape.specs.Answers.{block_wrote, block_read}
use Rattle.lent.specs.declared.steps.Output as declared
use Rattle.lent.specs.Answers.{step_out, rise_out, sample_of, interpolated_of}
use Rattle.cic.specs.declared.state.Cic.{Cic}
use Rattle.cic.specs.Reading.{state_of, counted_of, cic_of}
use Rattle.cic_calls.specs.Lent.{output}
use Rattle.cic_calls.specs.Answers.{out_number, wrote_number, wrote_or, read_number, read_or, interpolated_number, interpolated_or}

module _ {A : Type 0} (o : Ops A) where
  pub record New (order delay rate : ℕ) (s t : Cic A) (r : ℕ) : Type 0 where
    pub answer : r ≡ new_number order delay rate
    pub filter : t ≡ unless (new_number order delay rate) s (cic_of (new_counted o order delay rate))

  -- resume takes what stands in the fields as given.
  pub record Resume (s t : Cic A) (r : ℕ) : Type 0 where
    pub answer : r ≡ resume_number s.order s.delay s.rate s.countdown
    pub filter : t ≡ unless (resume_number s.order s.delay s.rate s.countdown) s
        (cic_of (resume_counted o s.order s.delay s.rate s.integrators s.combs s.hold s.countdown s.inputs))

  pub record SetRate (s : Cic A) (rate : ℕ) (t : Cic A) (r : ℕ) : Type 0 where
    pub answer : r ≡ rate_number (state_of s) rate
    pub filter : t ≡ cic_of (rate_counted o (counted_of s) rate)

  pub record Clear (s t : Cic A) (r : ℕ) : Type 0 where
    pub answer : r ≡ refusal (state_of s)
    pub filter : t ≡ cic_of (clear_counted o (counted_of s))

  pub record SettleInterpolate (s : Cic A) (x : A) (t : Cic A) (r : ℕ) : Type 0 where
    pub answer : r ≡ refusal (state_of s)
    pub filter : t ≡ cic_of (settle_counted o (counted_of s) x)

  -- An output stands in the filter that is left.
  pub record Decimate (s : Cic A) (x : A) (t : Cic A) (r : ℕ) : Type 0 where
    pub answer : r ≡ out_number (step_out o (counted_of s) x)
    pub filter : t ≡ cic_of (take_state o (counted_of s) x)
    pub stands : (y : declared.Output A) → step_out o (counted_of s) x ≡ Ok (Some y) → y ≡ output t.hold (cond (eqb r 2) (t.unsettled + 1) 0) t.inputs

  -- The block's answer stood as v, and stands as w; the slice stood as out, and stands as left.
  pub record DecimateBlock (s : Cic A) (xs out : List A) (v : Written) (t : Cic A) (left : List A) (w : Written) (r : ℕ) : Type 0 where
    pub answer : r ≡ wrote_number (block_wrote o (counted_of s) xs out)
    pub filter : t ≡ cic_of (block_state o (counted_of s) xs out)
    pub wrote : left ≡ block_out o (counted_of s) xs out
    pub told : w ≡ wrote_or (block_wrote o (counted_of s) xs out) v

  pub record Interpolate (s : Cic A) (x : Option A) (y : A) (t : Cic A) (z : A) (r : ℕ) : Type 0 where
    pub answer : r ≡ interpolated_number (rise_out o (counted_of s) (sample_of x))
    pub filter : t ≡ cic_of (rise_counted o (counted_of s) (sample_of x))
    pub output : z ≡ interpolated_or (rise_out o (counted_of s) (sample_of x)) y

  pub record InterpolateBlock (s : Cic A) (xs out : List A) (v : ℕ) (t : Cic A) (left : List A) (w r : ℕ) : Type 0 where
    pub answer : r ≡ read_number (block_read (state_of s) xs out)
    pub filter : t ≡ cic_of (fill_counted o (counted_of s) xs out)
    pub wrote : left ≡ fill_out o (state_of s) xs out
    pub count : w ≡ read_or (block_read (state_of s) xs out) v

  pub record GetInterpolate (s : Cic A) (y z : A) (r : ℕ) : Type 0 where
    pub answer : r ≡ refusal (state_of s)
    pub output : z ≡ interpolated_or (interpolated_of (refusal (state_of s)) (current_at o (state_of s) s.order)) y

-- The settled part's place and length stood as i and n, and stand as j and m: m elements of out from j on are the part.
pub record Settles {A : Type 0} (out : List A) (written told i n j m r : ℕ) : Type 0 where
  pub answer : r ≡ settled_number out written
  pub first : j ≡ unless (settled_number out written) i (written - length (settled_part out written told))
  pub count : m ≡ unless (settled_number out written) n (length (settled_part out written told))
  pub part : r ≡ 0 → take m (drop j out) ≡ settled_part out written told
