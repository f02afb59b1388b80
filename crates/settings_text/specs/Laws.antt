-- 02, A7: what is shown of a store's text, for any form whose lines are lawful.
use Rattle.std.specs.Prelude.{true, List, ◌≡◌, ℕ}
use Rattle.std.proofs.Math.Option.{some}
use Rattle.text.specs.Letters.{newline}
use Rattle.text.specs.Parts.{count}
use Rattle.settings_text.specs.Stores.{Form, Good, Bad, list_number, text_of, read_of}

-- a record that is not refused is held by its line, which has no newline; and a line holds only what it is the line of
pub record Lawful {A : Type 0} (form : Form A) : Type 0 where
  pub again : (s : A) → form.formed s ≡ true → form.parameters s ≡ 0 → form.record_in (form.record_line s) ≡ some s
  pub only : (l : List ℕ) (s : A) → form.record_in l ≡ some s → (l ≡ form.record_line s) × (form.formed s ≡ true)
  pub one_line : (s : A) → form.formed s ≡ true → form.parameters s ≡ 0 → count newline (form.record_line s) ≡ 0
  pub one_heading : count newline form.heading ≡ 0

-- reading what was written gives the same settings
abbrev pub ReadBack : {A : Type 0} → Form A → Type 0
ReadBack {A} form = (ss : List A) → list_number form ss ≡ 0 → read_of form (text_of form ss) ≡ Good ss

-- each list of settings has one text, and what can be read can be written
abbrev pub OneText : {A : Type 0} → Form A → Type 0
OneText {A} form = (text : List ℕ) (ss : List A) → read_of form text ≡ Good ss → (text ≡ text_of form ss) × (list_number form ss ≡ 0)

-- what is refused is refused by a number, so that 0 can stand for none
abbrev pub Numbered : {A : Type 0} → Form A → Type 0
Numbered form = (text : List ℕ) (line : ℕ) → read_of form text ≡ Bad line 0 → ⊥
