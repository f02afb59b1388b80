-- What comes out after a saved state is resumed, in a customer's words (recorder, specs/Traces); proved in proofs/Resumes.
use Rattle.std.specs.Prelude.{◌≡◌, List, ℕ, ◌*◌, pos, Ok}
use Rattle.std.specs.Int.{w64}
use Rattle.words.specs.Words.{wrap}
use Rattle.recorder.specs.Traces.{Traces}
use Rattle.recorder.specs.declared.recorder.Recorder.{Recorder}
use Rattle.desk.specs.Saved.{word_at, load_of}

-- Whatever line is taken as a state, be it the one that was saved or not: N · M outputs are not to be believed, and every later one is the
-- moving sum of the turns of the words since then alone. Order, delay, rate, countdown, number of inputs and turns are words 0 to 4 and 6.
abbrev pub AfterLoad : Type 0
AfterLoad =
    (line : List ℕ) (s : Recorder) → load_of line ≡ Ok s
    → Traces (word_at line 0) (word_at line 1) (word_at line 2) (word_at line 3) (word_at line 0 * word_at line 1) (word_at line 4)
    (record { y = wrap w64 (pos (word_at line 6)) }) s
