-- What the program writes to a store.
use Rattle.std.specs.Prelude.{List, [], ◌∷◌, ◌++◌, ℕ, ◌≤◌, length}
use Rattle.text.specs.Letters.{bytes, tab, newline}
use Rattle.text.specs.Numbers.{decimal_of}
use Rattle.text.specs.Writing.{Wrote}
use Rattle.settings_text.specs.Lines.{Setting, form_of, version_of}
use Rattle.settings_text.specs.Moves.{Moved}
use Rattle.settings_text.specs.Stores.{Found, Good, Bad, read_of}
use Rattle.settings_text.specs.declared.version.Version.{Version}
use Rattle.settings_text.specs.declared.version.Version.TheVariants.{One, Two}
use Rattle.store.specs.Moving.{move_ends}

-- `ok`, the form
abbrev pub ok_form : Version → List ℕ
ok_form One = bytes "ok\t1\t"
ok_form Two = bytes "ok\t2\t"

-- and the count of records
unfoldable pub ok_answer : Version → ℕ → List ℕ
ok_answer v count = ok_form v ++ (decimal_of count ++ (newline ∷ []))

-- `bad`, line number from 1, refusal number
unfoldable pub bad_answer : ℕ → ℕ → List ℕ
bad_answer line number = bytes "bad\t" ++ (decimal_of line ++ (tab ∷ (decimal_of number ++ (newline ∷ []))))

-- with no argument or with `check`
abbrev pub checked : Version → Found Setting → List ℕ
checked v (Good ss) = ok_answer v (length ss)
checked v (Bad line number) = bad_answer line number

-- with `copy`: byte for byte the same
abbrev pub copied : List ℕ → Found Setting → List ℕ
copied text (Good ss) = text
copied text (Bad line number) = bad_answer line number

-- what is found in a text of the form that its first line opens
abbrev pub found_in : List ℕ → Found Setting
found_in text = read_of (form_of (version_of text)) text

-- with `forth` or `back`: the moved text, or line 0 where no line is to blame; 20 where the buffer is short
abbrev pub move_answer : Moved → List ℕ → List ℕ
move_answer m o = move_ends m o bad_answer (λ text. text)

-- bytes were put at a buffer's start, and none past its end
pub record Gave (o bs : List ℕ) (r : ℕ) (o' : List ℕ) : Type 0 where
  pub wrote : Wrote o 0 bs r o'
  pub inside : r ≤ length o'
