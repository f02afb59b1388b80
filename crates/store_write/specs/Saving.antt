-- What writing answers. 02, A7: a bad list is refused by its number, else a short slice by 20.
use Rattle.std.specs.Prelude.{cond, ◌≡◌, List, ℕ, leb, eqb, length, Result, Ok, Err}
use Rattle.blocks.specs.declared.refusal.Refusal.{Refusal}
use Rattle.blocks.specs.Refusals.{refusal_at}
use Rattle.text.specs.Writing.{overlaid}
use Rattle.settings_text.specs.Lines.{form_of}
use Rattle.settings_text.specs.Stores.{text_of}
use Rattle.settings_text.specs.declared.version.Version.{Version}
use Rattle.settings_text.specs.declared.version.Version.TheVariants.{One}
use Rattle.entries.specs.Entries.{records_in, number_as}
use Rattle.entries.specs.declared.settings.Settings.{Settings}

abbrev pub text_as : Version → Settings → List ℕ
text_as v s = text_of (form_of v) (records_in s)

abbrev pub store_text : Settings → List ℕ
store_text s = text_as One s

abbrev pub saved : {A : Type 0} → ℕ → List ℕ → List ℕ → (ℕ → A) → A → A
saved number text o refused done = cond (eqb number 0) (cond (leb (length text) (length o)) done (refused 20)) (refused number)

-- what is answered: the count written, or the refusal
abbrev pub save_answer : Version → Settings → List ℕ → Result ℕ Refusal
save_answer v s o = saved (number_as v s) (text_as v s) o (λ n. Err (refusal_at n)) (Ok (length (text_as v s)))

-- and the slice, whose rest stays and where nothing is written on a refusal
pub record SavesAs (v : Version) (s : Settings) (o : List ℕ) (r : Result ℕ Refusal) (o' : List ℕ) : Type 0 where
  pub answer : r ≡ save_answer v s o
  pub written : o' ≡ saved (number_as v s) (text_as v s) o (λ n. o) (overlaid o 0 (text_as v s))

-- in form 1
abbrev pub Saves : Settings → List ℕ → Result ℕ Refusal → List ℕ → Type 0
Saves s o r o' = SavesAs One s o r o'
