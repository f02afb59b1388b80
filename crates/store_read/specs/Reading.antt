-- What reading answers.
use Rattle.std.specs.Prelude.{List, [], ◌++◌, map, ℕ, ◌-◌, ◌%◌, ◌^◌, ℤ, length, replicate, Option, Some, None, Result, Ok, Err}
use Rattle.std.proofs.Math.Option.{Option as Maybe, none, some}
use Rattle.std.specs.Int.{w32}
use Rattle.blocks.specs.declared.refusal.Refusal.{Refusal}
use Rattle.blocks.specs.Refusals.{refusal_at, answer}
use Rattle.words.specs.Words.{word}
use Rattle.text.specs.Parts.{parted}
use Rattle.settings_text.specs.Lines.{Setting, form_of}
use Rattle.settings_text.specs.Stores.{Found, Good, Bad, record_number}
use Rattle.settings_text.specs.declared.version.Version.{Version}
use Rattle.entries.specs.Entries.{eight, entry_of, empty_entry}
use Rattle.entries.specs.declared.settings.Entry.{Entry}
use Rattle.entries.specs.declared.settings.Settings.{Settings}
use Rattle.store_read.specs.declared.line.Body.{Body}
use Rattle.store_read.specs.declared.line.Numbers.{Numbers}
use Rattle.store_read.specs.declared.reading.BadLine.{BadLine}

-- settings in 64 entries, empty ones last
abbrev pub settings_of : List Setting → Settings
settings_of ss = record { count = length ss; entries = map entry_of ss ++ replicate (64 - length ss) empty_entry }

-- the settings; or the first bad line and what refuses it
abbrev pub found : Found Setting → Result Settings BadLine
found (Good ss) = Ok (settings_of ss)
found (Bad line number) = Err (record { line = line; refusal = refusal_at number })

-- For private functions. The parts of the text that is left, if any is
abbrev pub parts_left : ℕ → Option (List ℕ) → List (List ℕ)
parts_left sep None = []
parts_left sep (Some text) = parted sep text

abbrev pub word_by : Maybe ℤ → Option ℕ
word_by none = None
word_by (some z) = Some (word w32 z)

abbrev pub arch_by : Maybe ℕ → Option ℕ
arch_by none = None
arch_by (some m) = Some (m % 2 ^ 32)

abbrev pub numbers_read : Maybe (List ℤ) → Option Numbers
numbers_read none = None
numbers_read (some zs) = Some (record { count = length zs; words = eight zs })

-- a line's record
abbrev pub line_read : Maybe Setting → Option Entry
line_read none = None
line_read (some s) = Some (entry_of s)

-- without its name
abbrev pub body_read : Maybe Setting → Option Body
body_read none = None
body_read (some s) = Some (record { kind = (entry_of s).kind; a = (entry_of s).a })

-- judged after k records, the last of them named `last`; a line that holds no record is refused by 81
abbrev pub entry_read : Version → ℕ → List ℕ → Maybe Setting → Result Entry Refusal
entry_read v k last none = Err Refusal.SettingsLine
entry_read v k last (some s) = answer (record_number (form_of v) k last s) (entry_of s)
