-- What a record does at the recorder's desk, and what it is answered. A refusal stops the desk.
use Rattle.std.specs.Prelude.{true, false, cond, List, [], ◌∷◌, ℕ, ◌/◌, ◌%◌, eqb, ℤ, pos, ◌+ℤ◌, length, get_or, Result, Ok, Err}
use Rattle.std.specs.Int.{w32}
use Rattle.words.specs.Words.{word, wrap}
use Rattle.blocks.specs.declared.refusal.Refusal.{Refusal}
use Rattle.blocks.specs.Refusals.{answer}
use Rattle.sums.specs.Calls.{rate_number}
use Rattle.sums.specs.Counted.{blank_counted}
use Rattle.shape.specs.declared.runs.Written.{Written}
use Rattle.cic.specs.Reading.{state_of, cic_of}
use Rattle.recorder.specs.Calls.{word_ops, opened, opened_of, pulled_of, push_number, pushed_of, rated_of, took_of, took_answer, out_left}
use Rattle.desk.specs.Lines.{record_of}
use Rattle.desk.specs.Saved.{load_of}
use Rattle.desk.specs.declared.lines.Kind.{Kind}
use Rattle.desk.specs.declared.lines.Kind.TheVariants.{Word, Open, Rate, Pull, Push, Save, Unknown}
use Rattle.desk.specs.declared.lines.Record.{Record}
use Rattle.desk.specs.declared.lines.Record.TheVariants.{Is, Bad}
use Rattle.recorder.specs.declared.recorder.Recorder.{Recorder}
use Rattle.desk.specs.declared.desk.Desk.{Desk}
use Rattle.desk.specs.declared.desk.Reply.{Reply}
use Rattle.desk.specs.declared.desk.Taken.{Taken}

-- before the first record: there is no recorder yet
unfoldable pub start_desk : Desk
start_desk = record { opened = false; going = true; recorder = opened (cic_of (blank_counted word_ops)) }

abbrev pub refuse : Desk → Refusal → Taken
refuse d k = record { desk = record { opened = d.opened; going = false; recorder = d.recorder }; reply = Reply.Bad k }

abbrev pub keep : Recorder → Reply → Taken
keep r reply = record { desk = record { opened = true; going = true; recorder = r }; reply = reply }

-- a call on the recorder, by its answer
abbrev pub ready_taken : Desk → Recorder → Result (Unit {0}) Refusal → Taken
ready_taken d r (Ok u) = keep r Reply.Silent
ready_taken d r (Err k) = refuse d k

abbrev pub readied : Desk → Result Recorder Refusal → Taken
readied d (Ok r) = keep r Reply.Silent
readied d (Err k) = refuse d k

abbrev pub refuse_or : Desk → Result (Unit {0}) Refusal → Taken → Taken
refuse_or d (Ok u) t = t
refuse_or d (Err k) t = refuse d k

-- the number of words so far, modulo 2 ^ 32
abbrev pub so_far : Desk → ℕ
so_far d = word w32 (pos d.recorder.filter.inputs)

-- `o`: N and M in 8 bits each, the rate in 16. 71: a second one; 85: its number isn't 0.
unfoldable pub open_taken : Desk → ℕ → ℕ → Taken
open_taken d number argument =
    cond d.opened (refuse d Refusal.Opening)
    (cond (eqb number 0) (readied d (opened_of (argument / 16777216) (argument / 65536 % 256) (argument % 65536))) (refuse d Refusal.RecordNumber))

-- `w`: an output, if the word gave one. 71: not opened yet; 85: it isn't the next word; then the recorder's own number.
abbrev pub word_taken : Desk → Recorder → List ℤ → Result Written Refusal → Taken
word_taken d r left (Ok w) =
    cond (eqb w.count 0) (keep r Reply.Silent)
    (keep r (Reply.Output (record { value = get_or left 0 (pos 0); told = w.told; number = w.number })))
word_taken d r left (Err k) = refuse d k

abbrev pub step_taken : Desk → ℤ → Taken
step_taken d x =
    let none = pos 0 ∷ [] in
    word_taken d (took_of d.recorder (x ∷ []) none none) (out_left d.recorder (x ∷ []) none none) (took_answer d.recorder (x ∷ []) none none)

unfoldable pub words_taken : Desk → ℕ → ℤ → Taken
words_taken d number x =
    cond d.opened
    (cond (eqb number (word w32 (pos (so_far d) +ℤ pos 1))) (step_taken d x) (refuse d Refusal.RecordNumber))
    (refuse d Refusal.Opening)

-- the others. 76: an argument where there is none; 71; 85: words are missing before it, or one came twice.
unfoldable pub event_answer : Desk → ℕ → ℕ → Result (Unit {0}) Refusal
event_answer d number argument =
    cond (eqb argument 0) (cond d.opened (cond (eqb number (so_far d)) (Ok tt) (Err Refusal.RecordNumber)) (Err Refusal.Opening))
    (Err Refusal.OutOfRange)

abbrev pub event : Desk → ℕ → ℕ → Taken → Taken
event d number argument t = refuse_or d (event_answer d number argument) t

-- 73: an unknown letter
unfoldable pub kind_taken : Desk → Kind → ℕ → ℕ → Taken
kind_taken d Word number argument = words_taken d number (wrap w32 (pos argument))
kind_taken d Open number argument = open_taken d number argument
kind_taken d Rate number argument = event d number 0 (ready_taken d (rated_of d.recorder argument) (answer (rate_number (state_of d.recorder.filter) argument) tt))
kind_taken d Pull number argument = event d number argument (keep (pulled_of d.recorder) Reply.Silent)
kind_taken d Push number argument = event d number argument (ready_taken d (pushed_of d.recorder) (answer (push_number d.recorder) tt))
kind_taken d Save number argument = event d number argument (keep d.recorder Reply.Saved)
kind_taken d Unknown number argument = refuse d Refusal.UnknownRecord

abbrev pub line_taken : Desk → Record → Taken
line_taken d (Is kind number argument) = kind_taken d kind number argument
line_taken d (Bad k) = refuse d k

-- A record's bytes: a saved state has 1282, a line 18.
unfoldable pub taken_of : Desk → List ℕ → Taken
taken_of d bytes = cond (eqb (length bytes) 1282) (readied d (load_of bytes)) (line_taken d (record_of bytes))
