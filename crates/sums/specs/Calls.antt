-- 01, 'The decimator and interpolator': every call that isn't a block, by its number (0: accepted), its state and its answer.
-- A refused call hands back the given state; a refused maker gives the blank one; a refused question gives its number alone.
use Rattle.std.specs.Prelude.{Bool, true, false, cond, ◌||◌, List, [], ◌∷◌, ◌++◌, ℕ, zero, suc, ◌+◌, ◌-◌, ◌*◌, ◌/◌, ◌^◌, max, ltb, leb, eqb, get_or, take, drop, replicate}
use Rattle.std.proofs.Math.Option.{Option, none, some}
use Rattle.blocks.specs.Blocks.{unless}
use Rattle.sums.specs.Ops.{Ops, times}
use Rattle.sums.specs.Machine.{Machine, Output, decimated, given, interpolated, risen}
use Rattle.sums.specs.State.{State, view, put, refusal_of, refusal, zeroed, blank}

-- new and resume take no unsettled count, and new no countdown.
abbrev pub new_number : ℕ → ℕ → ℕ → ℕ
new_number order delay rate = refusal_of order delay rate 0 0

abbrev pub resume_number : ℕ → ℕ → ℕ → ℕ → ℕ
resume_number order delay rate countdown = refusal_of order delay rate countdown 0

-- set_rate: 12 is for either rate.
abbrev pub rate_number : {A : Type 0} → State A → ℕ → ℕ
rate_number s rate = refusal_of s.order s.delay (max s.rate rate) s.countdown s.unsettled

-- Gain is exactly (R · M) ^ N.
unfoldable pub gain_of : ℕ → ℕ → ℕ → ℕ
gain_of order delay rate = (suc rate * delay) ^ order

abbrev pub gain : {A : Type 0} → State A → ℕ
gain s = gain_of s.order s.delay s.rate

-- 21: the interpolator given a sample when none is due; 22: given none when one is due. A sample is due exactly at countdown 0.
unfoldable pub rise_number : {A : Type 0} → State A → Option A → ℕ
rise_number s (some x) = unless (refusal s) (refusal s) (cond (eqb s.countdown 0) 0 21)
rise_number s none = unless (refusal s) (refusal s) (cond (eqb s.countdown 0) 22 0)

-- A state as resume makes it: order, delay, rate, all cells, hold and countdown as given; the unsettled count becomes N · M.
abbrev pub resumed : {A : Type 0} → ℕ → ℕ → ℕ → List A → List A → A → ℕ → State A
resumed order delay rate integrators combs hold countdown = record {
  order = order;
  delay = delay;
  rate = rate;
  countdown = countdown;
  unsettled = order * delay;
  hold = hold;
  integrators = integrators;
  combs = combs;
}

module _ {A : Type 0} (o : Ops A) where
  -- new: a new state has countdown 0 and unsettled count 0.
  unfoldable pub new_state : ℕ → ℕ → ℕ → State A
  new_state order delay rate = unless (new_number order delay rate) (blank o) (zeroed o order delay rate)

  -- resume.
  unfoldable pub resume_state : ℕ → ℕ → ℕ → List A → List A → A → ℕ → State A
  resume_state order delay rate integrators combs hold countdown =
      unless (resume_number order delay rate countdown) (blank o) (resumed order delay rate integrators combs hold countdown)

  -- set_rate keeps the old countdown; the unsettled count becomes N · M, also at the same rate.
  unfoldable pub rate_state : State A → ℕ → State A
  rate_state s rate =
      unless (rate_number s rate) s (resumed s.order s.delay rate s.integrators s.combs s.hold s.countdown)

  -- clear: keeps order, delay and rate and zeroes the rest, cells beyond N and M included.
  unfoldable pub clear_state : State A → State A
  clear_state s = unless (refusal s) s (zeroed o s.order s.delay s.rate)

  -- settle_interpolate on x: clear, first delay line all x (N = 0: hold x), last integrator x times gain.
  unfoldable pub settled_at : State A → A → ℕ → State A
  settled_at s x zero = record {
    order = zero;
    delay = s.delay;
    rate = s.rate;
    countdown = 0;
    unsettled = 0;
    hold = x;
    integrators = replicate 8 o.nil;
    combs = replicate 64 o.nil;
  }
  settled_at s x (suc n) = record {
    order = suc n;
    delay = s.delay;
    rate = s.rate;
    countdown = 0;
    unsettled = 0;
    hold = o.nil;
    integrators = replicate n o.nil ++ (times o (gain s) x ∷ replicate (7 - n) o.nil);
    combs = replicate s.delay x ++ replicate (64 - s.delay) o.nil;
  }

  unfoldable pub settle_state : State A → A → State A
  settle_state s x = unless (refusal s) s (settled_at s x s.order)

  -- The decimator step: its state, and one output with its mark or nothing at all.
  unfoldable pub step_state : State A → A → State A
  step_state s x = unless (refusal s) s (put s (decimated o (view s) x))

  unfoldable pub step_given : State A → A → Option (Output A)
  step_given s x = unless (refusal s) none (given o (view s) x)

  -- The interpolator step, with a sample or with none.
  abbrev pub sample : Option A → A
  sample (some x) = x
  sample none = o.nil

  unfoldable pub rise_state : State A → Option A → State A
  rise_state s x = unless (rise_number s x) s (put s (interpolated o (view s) (sample x)))

  -- the output of an accepted step
  unfoldable pub rise_given : State A → Option A → A
  rise_given s x = risen o (view s) (sample x)

  -- The current interpolator output is the last integrator (N = 0: the hold).
  unfoldable pub current_at : State A → ℕ → A
  current_at s zero = s.hold
  current_at s (suc n) = get_or s.integrators n o.nil

-- the number of bits of n
unfoldable pub bit_length : ℕ → ℕ → ℕ
bit_length zero n = zero
bit_length (suc fuel) zero = zero
bit_length (suc fuel) (suc n) = suc (bit_length fuel (suc n / 2))

-- 14: gain above 2 ^ 63 - 1, when the gain is asked. The tests run in ascending number, so it comes before 15.
unfoldable pub gain_number_of : ℕ → ℕ → ℕ → ℕ → ℕ → ℕ
gain_number_of order delay rate countdown unsettled =
    unless (refusal_of order delay rate countdown 0) (refusal_of order delay rate countdown 0)
    (cond (ltb (2 ^ 63 - 1) (gain_of order delay rate)) 14 (refusal_of order delay rate countdown unsettled))

-- gain_log2 is N times the bit length of R · M - 1.
unfoldable pub gain_log2_of : ℕ → ℕ → ℕ → ℕ
gain_log2_of order delay rate = order * bit_length 64 (suc rate * delay - 1)

-- response_length is N · (R · M - 1).
unfoldable pub response_length_of : ℕ → ℕ → ℕ → ℕ
response_length_of order delay rate = order * (suc rate * delay - 1)

-- 02, A1: fit takes the width, 32 or 64. It asks about numbers, whatever the filter's own word.
unfoldable pub is_width : ℕ → Bool
is_width width = eqb width 32 || eqb width 64

-- 17: fit asked for b outside 1 .. width, or for another width, of a state whose own number is k.
unfoldable pub fit_number_of : ℕ → ℕ → ℕ → ℕ
fit_number_of k width b = unless k k (cond (eqb b 0 || ltb width b) 17 (cond (is_width width) 0 17))

-- 02, A5: yes exactly when the gain is at most 2 ^ (width - b).
unfoldable pub fits_of : ℕ → ℕ → ℕ → Bool
fits_of gain width b = leb gain (2 ^ (width - b))

-- The same, asked of a state.
module _ {A : Type 0} where
  abbrev pub gain_number : State A → ℕ
  gain_number s = gain_number_of s.order s.delay s.rate s.countdown s.unsettled

  abbrev pub gain_log2 : State A → ℕ
  gain_log2 s = gain_log2_of s.order s.delay s.rate

  abbrev pub response_length : State A → ℕ
  response_length s = response_length_of s.order s.delay s.rate

  abbrev pub fit_number : State A → ℕ → ℕ → ℕ
  fit_number s width b = fit_number_of (refusal s) width b

  abbrev pub fits : State A → ℕ → ℕ → Bool
  fits s width b = fits_of (gain s) width b
