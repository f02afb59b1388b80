-- 02, A7, A12 and A13: a record's line, and the two forms.
use Rattle.std.specs.Prelude.{Bool, false, cond, ◌&&◌, List, [], ◌∷◌, ℕ, leb, eqb, ℤ, pos, negsuc, nat_abs, length}
use Rattle.std.proofs.Math.Option.{Option, none, some}
use Rattle.std.specs.Int.Signed.{lt_z}
use Rattle.sums.specs.Calls.{new_number}
use Rattle.text.specs.Letters.{bytes, tab, newline}
use Rattle.text.specs.Numbers.{decimal_of}
use Rattle.text.specs.Parts.{parted, joined_by}
use Rattle.text.specs.Ranges.{unsigned, signed, all_lie, number_in, numbers_in, texts}
use Rattle.text.specs.Same.{same}
use Rattle.wdf.specs.Calls.{sections_number}
use Rattle.wdf.specs.Calls as wdf
use Rattle.settings_text.specs.Stores.{Form, or_else}
use Rattle.settings_text.specs.Fields.{is_name, nibbles_of, nibbles_in}
use Rattle.settings_text.specs.declared.version.Version.{Version}
use Rattle.settings_text.specs.declared.version.Version.TheVariants.{One, Two}

-- `cic`: name, N, M, and the rate in form 1 or R itself in form 2. `wdf`: name, architecture, and a coefficient for each section.
-- `dither`: name, F, and five coefficients, offset, lower and upper limit
pub data Setting : Type 0 where
  Cic : List ℕ → ℕ → ℕ → ℕ → Setting
  Wdf : List ℕ → ℕ → List ℤ → Setting
  Dither : List ℕ → ℕ → List ℤ → Setting

abbrev pub record_name : Setting → List ℕ
record_name (Cic name n m rate) = name
record_name (Wdf name arch cs) = name
record_name (Dither name f cs) = name

-- fields with tabs: `cic`, name, N, M, rate or R; or `wdf`, name, the number of sections, that many nibbles in one field, then each
-- coefficient's bits in decimal; or `dither`, name, F, five coefficients' bits, offset, lower and upper limit
unfoldable pub fields_of : Setting → List (List ℕ)
fields_of (Cic name n m rate) = bytes "cic" ∷ name ∷ texts (pos n ∷ pos m ∷ pos rate ∷ [])
fields_of (Wdf name arch cs) = bytes "wdf" ∷ name ∷ decimal_of (length cs) ∷ nibbles_of (length cs) arch ∷ texts cs
fields_of (Dither name f cs) = bytes "dither" ∷ name ∷ decimal_of f ∷ texts cs

unfoldable pub record_line : Setting → List ℕ
record_line s = joined_by tab (fields_of s)

-- three numbers
abbrev pub cic_by : List ℕ → Option (List ℤ) → Option Setting
cic_by name none = none
cic_by name (some []) = none
cic_by name (some (n ∷ [])) = none
cic_by name (some (n ∷ m ∷ [])) = none
cic_by name (some (n ∷ m ∷ rate ∷ [])) = some (Cic name (nat_abs n) (nat_abs m) (nat_abs rate))
cic_by name (some (n ∷ m ∷ rate ∷ z ∷ zs)) = none

-- u32
unfoldable pub cic_in : List ℕ → List (List ℕ) → Option Setting
cic_in name fields = cic_by name (numbers_in unsigned fields)

-- a number that is k
abbrev pub counts : ℕ → Option ℤ → Bool
counts k none = false
counts k (some (pos n)) = eqb n k
counts k (some (negsuc n)) = false

abbrev pub wdf_of : List ℕ → List ℤ → Option ℕ → Option Setting
wdf_of name cs none = none
wdf_of name cs (some arch) = some (Wdf name arch cs)

-- the number of sections, as many nibbles and as many coefficients
abbrev pub wdf_by : List ℕ → List ℕ → List ℕ → Option (List ℤ) → Option Setting
wdf_by name k nibbles none = none
wdf_by name k nibbles (some cs) = cond (counts (length cs) (number_in unsigned k)) (wdf_of name cs (nibbles_in (length cs) nibbles)) none

-- i32 for coefficients
unfoldable pub wdf_in : List ℕ → List (List ℕ) → Option Setting
wdf_in name [] = none
wdf_in name (k ∷ []) = none
wdf_in name (k ∷ nibbles ∷ fields) = wdf_by name k nibbles (numbers_in signed fields)

-- F and eight numbers
abbrev pub dither_by : List ℕ → Option ℤ → Option (List ℤ) → Option Setting
dither_by name none cs = none
dither_by name (some f) none = none
dither_by name (some f) (some cs) = cond (eqb (length cs) 8) (some (Dither name (nat_abs f) cs)) none

-- u32 for F, i32 for the others; form 1 has no such record
unfoldable pub dither_in : Version → List ℕ → List (List ℕ) → Option Setting
dither_in One name fields = none
dither_in Two name [] = none
dither_in Two name (f ∷ fields) = dither_by name (number_in unsigned f) (numbers_in signed fields)

-- by the first field
unfoldable pub kind_in : Version → List ℕ → List ℕ → List (List ℕ) → Option Setting
kind_in v kind name fields =
    cond (same kind (bytes "cic")) (cic_in name fields)
    (cond (same kind (bytes "wdf")) (wdf_in name fields) (cond (same kind (bytes "dither")) (dither_in v name fields) none))

abbrev pub fields_in : Version → List (List ℕ) → Option Setting
fields_in v [] = none
fields_in v (kind ∷ []) = none
fields_in v (kind ∷ name ∷ fields) = cond (is_name name) (kind_in v kind name fields) none

-- lines are at most 160 bytes before the newline
unfoldable pub record_in : Version → List ℕ → Option Setting
record_in v line = cond (leb (length line) 160) (fields_in v (parted tab line)) none

-- a record has a line where its name is one and its numbers are of their types, a `dither` record in form 2 alone
unfoldable pub formed : Version → Setting → Bool
formed v (Cic name n m rate) = is_name name && all_lie unsigned (pos n ∷ pos m ∷ pos rate ∷ [])
formed v (Wdf name arch cs) = is_name name && all_lie signed cs
formed One (Dither name f cs) = false
formed Two (Dither name f cs) = is_name name && (all_lie unsigned (pos f ∷ []) && (eqb (length cs) 8 && all_lie signed cs))

-- the parameter numbers of a `cic`: those of `Cic::new` with the rate, and in form 2 those with 12 for R outside 1..65,536
abbrev pub cic_number : Version → ℕ → ℕ → ℕ → ℕ
cic_number One n m rate = new_number n m rate
cic_number Two n m r = or_else (new_number n m 0) (cond (leb 1 r && leb r 65536) 0 12)

-- the lower limit above the upper one
abbrev pub crossed : List ℤ → Bool
crossed [] = false
crossed (lower ∷ []) = false
crossed (lower ∷ upper ∷ []) = lt_z upper lower
crossed (c ∷ lower ∷ upper ∷ rest) = crossed (lower ∷ upper ∷ rest)

-- those of a `dither`: 40, F outside 1..31; 41, lower limit above upper
unfoldable pub dither_number : ℕ → List ℤ → ℕ
dither_number f cs = cond (leb 1 f && leb f 31) (cond (crossed cs) 41 0) 40

-- those of a `wdf`: of `Wdf::from_form1`, and in form 2 of `Wdf::new`, which refuses e and f with 53, after 51
abbrev pub wdf_number : Version → ℕ → ℕ → ℕ
wdf_number One k arch = sections_number k arch
wdf_number Two k arch = wdf.new_number k arch

-- the parameter numbers
unfoldable pub parameters : Version → Setting → ℕ
parameters v (Cic name n m rate) = cic_number v n m rate
parameters v (Wdf name arch cs) = wdf_number v (length cs) arch
parameters v (Dither name f cs) = dither_number f cs

-- a form's number
abbrev pub version_number : Version → ℕ
version_number One = 1
version_number Two = 2

-- first line: `set` and 1, or `set` and 2
abbrev pub heading : Version → List ℕ
heading One = bytes "set\t1"
heading Two = bytes "set\t2"

unfoldable pub form_of : Version → Form Setting
form_of v = record {
  heading = heading v;
  record_line = record_line;
  record_in = record_in v;
  record_name = record_name;
  formed = formed v;
  parameters = parameters v;
}

abbrev pub form1 : Form Setting
form1 = form_of One

abbrev pub form2 : Form Setting
form2 = form_of Two

-- the form that a text's first line opens; form 1 where it opens none
abbrev pub version_in : List (List ℕ) → Version
version_in [] = One
version_in (first ∷ []) = One
version_in (first ∷ next ∷ rest) = cond (same first (heading Two)) Two One

unfoldable pub version_of : List ℕ → Version
version_of text = version_in (parted newline text)
