-- For private functions: fields put into a lent buffer that has room.
use Rattle.std.specs.Prelude.{Bool, true, false, ◌≡◌, List, [], ◌∷◌, ◌++◌, ℕ, ◌+◌, ◌≤◌, ℤ, pos, length, take, Result}
use Rattle.blocks.specs.declared.refusal.Refusal.{Refusal}
use Rattle.blocks.specs.Refusals.{answer}
use Rattle.text.specs.Letters.{bytes, tab}
use Rattle.text.specs.Numbers.{decimal_of}
use Rattle.text.specs.Ranges.{unsigned, all_lie, texts}
use Rattle.text.specs.Writing.{Wrote}
use Rattle.settings_text.specs.Fields.{nibbles_of}
use Rattle.settings_text.specs.Lines.{form_of}
use Rattle.settings_text.specs.Stores.{text_of}
use Rattle.settings_text.specs.declared.version.Version.{Version}
use Rattle.settings_text.specs.declared.version.Version.TheVariants.{One, Two}
use Rattle.entries.specs.Entries.{records_in, number_as}
use Rattle.entries.specs.declared.settings.Kind.{Kind}
use Rattle.entries.specs.declared.settings.Kind.TheVariants as kinds
use Rattle.entries.specs.declared.settings.Settings.{Settings}

-- a tab before each field
unfoldable pub tabs : List (List ℕ) → List ℕ
tabs [] = []
tabs (f ∷ fs) = (tab ∷ f) ++ tabs fs

-- bytes were put at the place, at most `most` of them
pub record Ended (o : List ℕ) (at : ℕ) (bs : List ℕ) (most r : ℕ) (o' : List ℕ) : Type 0 where
  pub wrote : Wrote o at bs r o'
  pub high : r ≤ at + most
  pub long : length o' ≡ length o

-- the same of fields
abbrev pub Fielded : List ℕ → ℕ → List (List ℕ) → ℕ → ℕ → List ℕ → Type 0
Fielded o at fs most r o' = Ended o at (tabs fs) most r o'

-- where a list's text ends, or what refuses the list; and the text, where it isn't refused
pub record Composing (v : Version) (s : Settings) (o : List ℕ) (r : Result ℕ Refusal) (o' : List ℕ) : Type 0 where
  pub judged : r ≡ answer (number_as v s) (length (text_of (form_of v) (records_in s)))
  pub wrote : number_as v s ≡ 0 → Ended o 0 (text_of (form_of v) (records_in s)) 9030 (length (text_of (form_of v) (records_in s))) o'
  pub long : length o' ≡ length o

-- a record of the kind has a place in the form, and its numbers are u32
abbrev pub allowed_in : Version → Kind → Bool
allowed_in v (kinds.Cic n m rate) = all_lie unsigned (pos n ∷ pos m ∷ pos rate ∷ [])
allowed_in v (kinds.Wdf k arch) = true
allowed_in One (kinds.Dither f) = false
allowed_in Two (kinds.Dither f) = all_lie unsigned (pos f ∷ [])

-- an entry's line: its kind's word, its name, and the fields after it
abbrev pub kind_word : Kind → List ℕ
kind_word (kinds.Cic n m rate) = bytes "cic"
kind_word (kinds.Wdf k arch) = bytes "wdf"
kind_word (kinds.Dither f) = bytes "dither"

abbrev pub body_of : Kind → List ℤ → List (List ℕ)
body_of (kinds.Cic n m rate) a = decimal_of n ∷ decimal_of m ∷ decimal_of rate ∷ []
body_of (kinds.Wdf k arch) a = decimal_of k ∷ nibbles_of k arch ∷ texts (take k a)
body_of (kinds.Dither f) a = decimal_of f ∷ texts (take 8 a)

abbrev pub sections : Kind → ℕ
sections (kinds.Cic n m rate) = 0
sections (kinds.Wdf k arch) = k
sections (kinds.Dither f) = 0
