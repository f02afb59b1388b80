-- 02, A12 and A13: the move of a store from one form to another.
use Rattle.std.specs.Prelude.{Bool, true, false, ◌||◌, List, [], ◌∷◌, map, ◌≡◌, ℕ, suc, ◌-◌, eqb, length}
use Rattle.std.proofs.Math.Option.{Option, none, some}
use Rattle.text.specs.Ranges.{both}
use Rattle.wdf.specs.Calls.{holds_retired}
use Rattle.wdf.specs.Retired.{moved}
use Rattle.settings_text.specs.Lines.{Setting, Cic, Wdf, Dither, form1, form2}
use Rattle.settings_text.specs.Stores.{Form, Found, Good, Bad, text_of, read_of}

-- a text in the other form; or the line and the number of a refusal, line 0 where no line is to blame
pub data Moved : Type 0 where
  Text : List ℕ → Moved
  Refused : ℕ → ℕ → Moved

module _ {A B : Type 0} (place : A → Option B) where
  -- each record as it stands in the other form, if each has a place there
  abbrev pub placed : List A → Option (List B)
  placed [] = some []
  placed (s ∷ ss) = both (λ (t : B) (ts : List B). t ∷ ts) (place s) (placed ss)

module _ {A B : Type 0} (from : Form A) (to : Form B) (place : A → Option B) where
  -- 84: a record has no place there
  abbrev pub placed_text : Option (List B) → Moved
  placed_text none = Refused 0 84
  placed_text (some ts) = Text (text_of to ts)

  -- what can't be read is refused by its own number
  abbrev pub moved_by : Found A → Moved
  moved_by (Good ss) = placed_text (placed place ss)
  moved_by (Bad line number) = Refused line number

  unfoldable pub move : List ℕ → Moved
  move text = moved_by (read_of from text)

-- from form 1 to form 2: R is the rate + 1, and b and c stand in the places of e and f
unfoldable pub raised : Setting → Setting
raised (Cic name n m rate) = Cic name n m (suc rate)
raised (Wdf name arch cs) = Wdf name (moved (length cs) arch) cs
raised (Dither name f cs) = Dither name f cs

-- and back, where a `dither` record has no place
unfoldable pub lowered : Setting → Option Setting
lowered (Cic name n m r) = some (Cic name n m (r - 1))
lowered (Wdf name arch cs) = some (Wdf name arch cs)
lowered (Dither name f cs) = none

abbrev pub forth : List ℕ → Moved
forth text = move form1 form2 (λ s. some (raised s)) text

abbrev pub back : List ℕ → Moved
back text = move form2 form1 lowered text

-- a move, and another one of what it gave
abbrev pub and_then : Moved → (List ℕ → Moved) → Moved
and_then (Text text) next = next text
and_then (Refused line number) next = Refused line number

abbrev pub is_dither : Setting → Bool
is_dither (Cic name n m rate) = false
is_dither (Wdf name arch cs) = false
is_dither (Dither name f cs) = true

abbrev pub any_dither : List Setting → Bool
any_dither [] = false
any_dither (s ∷ ss) = is_dither s || any_dither ss

abbrev pub refused_with : ℕ → Moved → Bool
refused_with n (Text text) = false
refused_with n (Refused line number) = eqb number n

-- a record with b and c where e and f stood
unfoldable pub renewed : Setting → Setting
renewed (Cic name n m rate) = Cic name n m rate
renewed (Wdf name arch cs) = Wdf name (moved (length cs) arch) cs
renewed (Dither name f cs) = Dither name f cs

-- e or f stands in it
abbrev pub is_retired : Setting → Bool
is_retired (Cic name n m rate) = false
is_retired (Wdf name arch cs) = holds_retired (length cs) arch
is_retired (Dither name f cs) = false

abbrev pub any_retired : List Setting → Bool
any_retired [] = false
any_retired (s ∷ ss) = is_retired s || any_retired ss

-- forth and back gives b and c where e and f stood, and else the same
abbrev pub ForthAndBack : Type 0
ForthAndBack =
    (text : List ℕ) (ss : List Setting) → read_of form1 text ≡ Good ss → and_then (forth text) back ≡ Text (text_of form1 (map renewed ss))

-- the same bytes, but for a file that holds e or f, and only such
abbrev pub OnlyRetired : Type 0
OnlyRetired =
    (text : List ℕ) (ss : List Setting) → read_of form1 text ≡ Good ss
    → (any_retired ss ≡ false → and_then (forth text) back ≡ Text text) × (any_retired ss ≡ true → and_then (forth text) back ≡ Text text → ⊥)

-- back from a readable file is refused with 84 exactly when a `dither` record is present, and is else refused with nothing
abbrev pub BackRefused : Type 0
BackRefused =
    (text : List ℕ) (ss : List Setting) → read_of form2 text ≡ Good ss
    → (any_dither ss ≡ true → back text ≡ Refused 0 84) × (any_dither ss ≡ false → (n : ℕ) → refused_with n (back text) ≡ false)

-- programs that know only form 1 refuse form 2 with 80: whatever form 2 doesn't refuse by its first line
abbrev pub OtherFormRefused : Type 0
OtherFormRefused = (text : List ℕ) → (read_of form2 text ≡ Bad 1 80 → ⊥) → read_of form1 text ≡ Bad 1 80
