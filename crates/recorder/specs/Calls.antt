-- What a recorder's calls give: words go through `Unwrapper` (01, 'Phase words') and their turns through the decimator on i64 (02, A1).
use Rattle.std.specs.Prelude.{◌≡◌, true, false, cond, List, ◌++◌, ℕ, ltb, ℤ, pos, length, drop, Result, Err}
use Rattle.std.specs.Result.{result_unwrap_or}
use Rattle.std.specs.Int.{w64}
use Rattle.blocks.specs.declared.refusal.Refusal.{Refusal}
use Rattle.blocks.specs.Refusals.{answer}
use Rattle.blocks.specs.Blocks.{unless}
use Rattle.blocks.specs.Scan.{scan, ends}
use Rattle.unwrap.specs.Phases.{grown}
use Rattle.unwrap.specs.declared.unwrapper.Unwrapper.{Unwrapper}
use Rattle.sums.specs.Ops.{Ops}
use Rattle.sums.specs.Signed.{signed_ops}
use Rattle.sums.specs.Calls.{new_number, resume_number}
use Rattle.sums.specs.Counted.{blank_counted, new_counted, resume_counted, rate_counted, block_number, block_state, block_out}
use Rattle.shape.specs.declared.runs.Written.{Written}
use Rattle.shape.specs.Answers.{block_wrote}
use Rattle.cic.specs.Reading.{counted_of, cic_of}
use Rattle.cic.specs.declared.state.Cic.{Cic}
use Rattle.recorder.specs.declared.recorder.Recorder.{Recorder}

-- the decimator's words
abbrev pub word_ops : Ops ℤ
word_ops = signed_ops w64

-- Each word's turn is the unwrapper's value after it.
abbrev pub turn_out : Unwrapper → ℤ → ℤ
turn_out u x = (grown u x).y

abbrev pub turns_from : Unwrapper → List ℤ → List ℤ
turns_from u words = scan turn_out grown u words

-- A new recorder stands at turn 0, its plug in.
abbrev pub opened : Cic ℤ → Recorder
opened f = record { plugged = true; turns = record { y = pos 0 }; filter = f }

unfoldable pub opened_of : ℕ → ℕ → ℕ → Result Recorder Refusal
opened_of N M rate = answer (new_number N M rate) (opened (cic_of (new_counted word_ops N M rate)))

-- What opening answers, and what the answer gives where `Recorder::blank`, whose filter is the blank one, stands for a refused one's recorder.
abbrev pub blank : Recorder
blank = opened (cic_of (blank_counted word_ops))

abbrev pub Opens : ℕ → ℕ → ℕ → Result Recorder Refusal → Type 0
Opens N M rate r = (r ≡ opened_of N M rate) × (result_unwrap_or r blank ≡ opened (cic_of (new_counted word_ops N M rate)))

-- The plug is pulled: no word is taken until it is pushed back.
abbrev pub pulled_of : Recorder → Recorder
pulled_of s = record { plugged = false; turns = s.turns; filter = s.filter }

-- It is pushed back: the filter is resumed from what it holds, and the turns go on from where they were. Refused by this number, it is as
-- it was.
abbrev pub push_number : Recorder → ℕ
push_number s = let f = s.filter in resume_number f.order f.delay f.rate f.countdown

unfoldable pub pushed_of : Recorder → Recorder
pushed_of s =
    let f = s.filter in
    unless (push_number s) s (record {
      plugged = true;
      turns = s.turns;
      filter = cic_of (resume_counted word_ops f.order f.delay f.rate f.integrators f.combs f.hold f.countdown f.inputs);
    })

-- Another rate; turns and plug stay. A refused change leaves the filter.
unfoldable pub rated_of : Recorder → ℕ → Recorder
rated_of s rate = record { plugged = s.plugged; turns = s.turns; filter = cic_of (rate_counted word_ops (counted_of s.filter) rate) }

-- Words. 20: the slice for the turns is shorter than they are; 87: the plug is out. Else the decimator's block of their turns; the turns go
-- on unless it is refused.
abbrev pub took_from : {A : Type 0} → Recorder → List ℤ → List ℤ → A → A → A → A
took_from s words turns short out taken = cond (ltb (length turns) (length words)) short (cond s.plugged taken out)

abbrev pub block_took : Recorder → List ℤ → List ℤ → Recorder
block_took s words out =
    let c = counted_of s.filter in let xs = turns_from s.turns words in
    record {
      plugged = s.plugged;
      turns = unless (block_number c xs out) s.turns (ends turn_out grown s.turns words);
      filter = cic_of (block_state word_ops c xs out);
    }

unfoldable pub took_of : Recorder → List ℤ → List ℤ → List ℤ → Recorder
took_of s words turns out = took_from s words turns s s (block_took s words out)

unfoldable pub took_answer : Recorder → List ℤ → List ℤ → List ℤ → Result Written Refusal
took_answer s words turns out =
    took_from s words turns (Err Refusal.ShortOutput) (Err Refusal.PlugOut)
    (block_wrote word_ops (counted_of s.filter) (turns_from s.turns words) out)

-- what the lent slices hold afterwards
unfoldable pub turns_left : Recorder → List ℤ → List ℤ → List ℤ
turns_left s words turns = took_from s words turns turns turns (turns_from s.turns words ++ drop (length words) turns)

unfoldable pub out_left : Recorder → List ℤ → List ℤ → List ℤ → List ℤ
out_left s words turns out = took_from s words turns out out (block_out word_ops (counted_of s.filter) (turns_from s.turns words) out)
