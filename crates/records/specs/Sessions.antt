-- 01, 'The replay program', and 02, A1: what a line does and what it is answered. 02, A2: a line is tested for 72, for
-- 73 to 76 (specs/Lines), for 71, and then the filter tests.
use Rattle.std.specs.Prelude.{Bool, true, false, cond, List, ℕ, zero, suc, ltb, ℤ, length}
use Rattle.std.proofs.Math.Option.{Option, none, some}
use Rattle.std.specs.Int.{Width, w32, w64}
use Rattle.words.specs.Words.{wrap}
use Rattle.sums.specs.Ops.{Ops}
use Rattle.sums.specs.Signed.{signed_ops}
use Rattle.sums.specs.State.{refusal}
use Rattle.sums.specs.Calls.{new_number, rate_number}
use Rattle.sums.specs.Counted.{Counted, Numbered, take_number, new_counted, rate_counted, clear_counted, take_state, take_given}
use Rattle.cic.specs.Reading.{counted_of, cic_of}
use Rattle.lent.specs.Answers.{answer_output}
use Rattle.cic.specs.declared.state.Cic.{Cic}
use Rattle.lent.specs.declared.steps.Output as answer
use Rattle.records.specs.Lines.{fault_at, record_of}
use Rattle.records.specs.declared.parse.Fault.{Fault}
use Rattle.records.specs.declared.parse.Record.{Record}
use Rattle.records.specs.declared.parse.Record.TheVariants.{Open, Rate, Sample, Clear, Bad}
use Rattle.records.specs.declared.session.Session.{Session}
use Rattle.records.specs.declared.session.Reply.{Reply}
use Rattle.records.specs.declared.session.Taken.{Taken}

-- The word of `cic64` (true), or of `cic` and of a replay that no record has opened yet: i64 or i32.
abbrev pub width_of : Bool → Width
width_of true = w64
width_of false = w32

-- The rules go over the word of the record that opened the replay. The filter that is kept computes with words of 64 bits for either:
-- specs/Seen says why that is the same.
abbrev pub own_words : Bool → Ops ℤ
own_words wide = signed_ops (width_of wide)

abbrev pub kept_words : Bool → Ops ℤ
kept_words wide = signed_ops w64

-- a refused line leaves the session as it was; a number that is about no field has the place 0
abbrev pub refuse_at : Session → Fault → Taken
refuse_at s f = record { session = s; reply = Reply.Bad f }

abbrev pub refuse : Session → ℕ → Taken
refuse s number = refuse_at s (fault_at number 0)

-- the filter is there, and is now f
abbrev pub kept : Bool → Cic ℤ → Reply → Taken
kept wide f reply = record { session = record { opened = true; wide = wide; filter = f }; reply = reply }

-- a call that makes the filter, or puts it in order, and its number (0: accepted)
abbrev pub told_by : Session → Bool → Cic ℤ → ℕ → Taken
told_by s wide f zero = kept wide f Reply.Silent
told_by s wide f (suc number) = refuse s (suc number)

-- the same by the call's number and its state
abbrev pub ordered : Session → Bool → ℕ → Counted ℤ → Taken
ordered s wide number t = told_by s wide (cic_of t) number

-- an output is read in the word
abbrev pub shown : Bool → answer.Output ℤ → answer.Output ℤ
shown wide y = record { value = wrap (width_of wide) y.value; told = y.told; number = y.number }

-- a step: its number, its state, and one output with what it tells or nothing at all
abbrev pub replied : Bool → Option (Numbered ℤ) → Reply
replied wide (some y) = Reply.Output (shown wide (answer_output y))
replied wide none = Reply.Silent

abbrev pub sampled : Session → ℕ → Counted ℤ → Option (Numbered ℤ) → Taken
sampled s zero t given = kept s.wide (cic_of t) (replied s.wide given)
sampled s (suc k) t given = refuse s (suc k)

-- the filter's calls by the session: `new`, `set_rate`, `clear` and a step
abbrev pub filter_of : Session → Counted ℤ
filter_of s = counted_of s.filter

module _ (words : Bool → Ops ℤ) where
  abbrev pub making : Session → Bool → ℕ → ℕ → ℕ → Taken
  making s wide n m rate = ordered s wide (new_number n m rate) (new_counted (words wide) n m rate)

  abbrev pub rating : Session → ℕ → Taken
  rating s rate = ordered s s.wide (rate_number (filter_of s).state rate) (rate_counted (words s.wide) (filter_of s) rate)

  abbrev pub clearing : Session → Taken
  clearing s = ordered s s.wide (refusal (filter_of s).state) (clear_counted (words s.wide) (filter_of s))

  abbrev pub stepping : Session → ℤ → Taken
  stepping s v =
      sampled s (take_number (filter_of s) 1) (take_state (words s.wide) (filter_of s) v) (take_given (words s.wide) (filter_of s) v)

  -- what is wrong with the line; 71: no `cic` or `cic64` line yet, or a second one; then the filter's own numbers
  unfoldable pub take_of : Session → Record → Taken
  take_of s (Bad f) = refuse_at s f
  take_of s (Open wide n m rate) = cond s.opened (refuse s 71) (making s wide n m rate)
  take_of s (Rate rate) = cond s.opened (rating s rate) (refuse s 71)
  take_of s (Sample v) = cond s.opened (stepping s v) (refuse s 71)
  take_of s Clear = cond s.opened (clearing s) (refuse s 71)

  -- a line that its newline ends. 72: line over 64 bytes before its newline
  unfoldable pub line_of : Session → List ℕ → Taken
  line_of s line = cond (ltb 64 (length line)) (refuse s 72) (take_of s (record_of s.wide line))
