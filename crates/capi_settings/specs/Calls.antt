-- What the calls leave in what is lent and answer: the number of a refusal, or 0. A refused call leaves everything as it was.
use Rattle.std.specs.Prelude.{cond, ◌≡◌, List, [], ℕ, ◌+◌, leb, ltb, length, get_or, set}
use Rattle.blocks.specs.Blocks.{unless}
use Rattle.text.specs.Writing.{overlaid}
use Rattle.settings_text.specs.Lines.{Setting, form_of}
use Rattle.settings_text.specs.Stores.{Found, Good, Bad, read_of}
use Rattle.settings_text.specs.Moves.{Moved}
use Rattle.entries.specs.Entries.{empty_entry, number_as}
use Rattle.entries.specs.declared.settings.Entry.{Entry}
use Rattle.entries.specs.declared.settings.Settings.{Settings}
use Rattle.store_read.specs.Reading.{settings_of}
use Rattle.store_write.specs.Saving.{saved, text_as}
use Rattle.store.specs.Moving.{move_ends}
use Rattle.capi_settings.specs.Fields.{Fields, version_at, fields_of}

-- a text read in a form: what refuses it, or 0; the line of that, or 0; and the settings, where there are some
abbrev pub read_in : ℕ → List ℕ → Found Setting
read_in form text = read_of (form_of (version_at form)) text

abbrev pub number_found : Found Setting → ℕ
number_found (Good ss) = 0
number_found (Bad line n) = n

abbrev pub line_found : Found Setting → ℕ
line_found (Good ss) = 0
line_found (Bad line n) = line

abbrev pub settings_found : Found Setting → Settings
settings_found (Good ss) = settings_of ss
settings_found (Bad line n) = settings_of []

-- the record at a place, an empty one where there is none
unfoldable pub record_at : Settings → ℕ → Entry
record_at s i = cond (leb 64 i) empty_entry (get_or s.entries i empty_entry)

-- the settings with a record at a place, in the place of the one there or after the last; beyond the 64th there is no place, and they are too many
unfoldable pub placed : Settings → ℕ → Entry → Settings
placed s i e = cond (leb 64 i) (record { count = 65; entries = s.entries }) (record { count = cond (ltb i s.count) s.count (i + 1); entries = set s.entries i e })

pub record Counts (form : ℕ) (text : List ℕ) (n m r : ℕ) : Type 0 where
  pub answer : r ≡ number_found (read_in form text)
  pub count : m ≡ unless (number_found (read_in form text)) n (settings_found (read_in form text)).count

pub record Tells (form : ℕ) (text : List ℕ) (i : ℕ) (s t : Fields) (r : ℕ) : Type 0 where
  pub answer : r ≡ number_found (read_in form text)
  pub fields : t ≡ unless (number_found (read_in form text)) s (fields_of (record_at (settings_found (read_in form text)) i))

-- what writing answers of the settings s in a slice o: what refuses it, or 0; and a count that is n before
abbrev pub put_number : ℕ → Settings → List ℕ → ℕ
put_number form s o = saved (number_as (version_at form) s) (text_as (version_at form) s) o (λ k. k) 0

abbrev pub put_count : ℕ → Settings → List ℕ → ℕ → ℕ
put_count form s o n = saved (number_as (version_at form) s) (text_as (version_at form) s) o (λ k. n) (length (text_as (version_at form) s))

abbrev pub slice_as : ℕ → Settings → List ℕ → List ℕ
slice_as form s o = saved (number_as (version_at form) s) (text_as (version_at form) s) o (λ n. o) (overlaid o 0 (text_as (version_at form) s))

pub record Puts (form : ℕ) (text : List ℕ) (i : ℕ) (e : Entry) (o : List ℕ) (n : ℕ) (o' : List ℕ) (m r : ℕ) : Type 0 where
  pub answer : r ≡ unless (number_found (read_in form text)) (number_found (read_in form text)) (put_number form (placed (settings_found (read_in form text)) i e) o)
  pub written : o' ≡ unless (number_found (read_in form text)) o (slice_as form (placed (settings_found (read_in form text)) i e) o)
  pub count : m ≡ unless (number_found (read_in form text)) n (put_count form (placed (settings_found (read_in form text)) i e) o n)

pub record Sends (m : Moved) (o : List ℕ) (n : ℕ) (o' : List ℕ) (k r : ℕ) : Type 0 where
  pub answer : r ≡ move_ends m o (λ line number. number) (λ text. 0)
  pub written : o' ≡ move_ends m o (λ line number. o) (λ text. overlaid o 0 text)
  pub count : k ≡ move_ends m o (λ line number. n) (λ text. length text)
