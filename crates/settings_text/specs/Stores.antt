-- 02, A7: a store of settings as lines of text, for any form of its records.
use Rattle.std.specs.Prelude.{Bool, cond, List, [], ◌∷◌, ℕ, zero, suc, ◌+◌, leb, eqb, length}
use Rattle.std.proofs.Math.Option.{Option, none, some}
use Rattle.text.specs.Letters.{newline}
use Rattle.text.specs.Order.{precedes}
use Rattle.text.specs.Parts.{parted, joined_by}
use Rattle.text.specs.Same.{same}

-- A form: its first line; a record's line; the record that a line holds, if it holds one; a record's name; whether the record has
-- a line at all; and the first of the parameter numbers that refuses it, or 0.
pub record Form (A : Type 0) : Type 0 where
  pub heading : List ℕ
  pub record_line : A → List ℕ
  pub record_in : List ℕ → Option A
  pub record_name : A → List ℕ
  pub formed : A → Bool
  pub parameters : A → ℕ

-- what a text holds: settings; or the first bad line, from 1, and the number that refuses it
pub data Found (A : Type 0) : Type 0 where
  Good : List A → Found A
  Bad : ℕ → ℕ → Found A

-- the first number that isn't 0
abbrev pub or_else : ℕ → ℕ → ℕ
or_else zero rest = rest
or_else (suc n) rest = suc n

module _ {A : Type 0} (form : Form A) where
  -- 83, too many records, before 82, a name used again or out of order, then the parameter numbers: of a well-formed record after
  -- k records, the last of them named `last`
  unfoldable pub record_number : ℕ → List ℕ → A → ℕ
  record_number k last s = cond (leb 64 k) 83 (cond (precedes last (form.record_name s)) (form.parameters s) 82)

  -- 81, record form, comes before these
  unfoldable pub listed_number : ℕ → List ℕ → A → ℕ
  listed_number k last s = cond (form.formed s) (record_number k last s) 81

  -- a list's number: the first bad record decides; 0 where there is none
  unfoldable pub list_from : ℕ → List ℕ → List A → ℕ
  list_from k last [] = 0
  list_from k last (s ∷ ss) = or_else (listed_number k last s) (list_from (suc k) (form.record_name s) ss)

  abbrev pub list_number : List A → ℕ
  list_number ss = list_from 0 [] ss

  -- the text: the first line and a line for each record, each ended by byte 10
  abbrev pub parts_of : List A → List (List ℕ)
  parts_of [] = [] ∷ []
  parts_of (s ∷ ss) = form.record_line s ∷ parts_of ss

  unfoldable pub text_of : List A → List ℕ
  text_of ss = joined_by newline (form.heading ∷ parts_of ss)

  -- record k, from 0, stands on line k + 2
  abbrev pub refused_at : ℕ → ℕ → Found A
  refused_at k number = Bad (k + 2) number

  abbrev pub with_first : A → Found A → Found A
  with_first s (Good ss) = Good (s ∷ ss)
  with_first s (Bad line n) = Bad line n

  -- a record, and what is found behind it; or the number that refuses it
  abbrev pub judged : ℕ → ℕ → A → Found A → Found A
  judged k zero s rest = with_first s rest
  judged k (suc n) s rest = refused_at k (suc n)

  -- a line that holds no record is 81
  abbrev pub line_then : ℕ → List ℕ → Option A → (A → Found A) → Found A
  line_then k last none rest = refused_at k 81
  line_then k last (some s) rest = judged k (record_number k last s) s (rest s)

  -- the lines after the first. What follows the last newline is a line without one, 81, unless it is empty
  unfoldable pub lines_in : ℕ → List ℕ → List (List ℕ) → Found A
  lines_in k last [] = refused_at k 81
  lines_in k last (rest ∷ []) = cond (eqb (length rest) 0) (Good []) (refused_at k 81)
  lines_in k last (line ∷ next ∷ rest) = line_then k last (form.record_in line) (λ s. lines_in (suc k) (form.record_name s) (next ∷ rest))

  -- 80: the first line
  unfoldable pub opened_by : List (List ℕ) → Found A
  opened_by [] = Bad 1 80
  opened_by (first ∷ []) = Bad 1 80
  opened_by (first ∷ next ∷ rest) = cond (same first form.heading) (lines_in 0 [] (next ∷ rest)) (Bad 1 80)

  -- reading: the first bad line decides
  unfoldable pub read_of : List ℕ → Found A
  read_of text = opened_by (parted newline text)
