-- 01, 'The replay program', a line read as a record: `cic N M rate`, `rate r`, `x v`, `clear`; 02, A1: `cic64` with the fields of `cic`.
-- 02, A2: what is wrong with a line is told by a number and a place, in this order: 73 unknown record, 74 wrong number of fields, then the
-- fields left to right, each 75 (not a well-formed number) before 76 (outside its range).
use Rattle.std.specs.Prelude.{Bool, true, false, cond, List, [], ◌∷◌, ℕ, ◌+◌, ◌-◌, leb, eqb, ℤ, pos, negsuc, length, get_or}
use Rattle.blocks.specs.Blocks.{unless}
use Rattle.text.specs.Letters.{bytes, tab}
use Rattle.text.specs.Numbers.{number_of}
use Rattle.text.specs.Parts.{parted}
use Rattle.text.specs.Ranges.{Range, range, unsigned, signed}
use Rattle.text.specs.Same.{same}
use Rattle.text.specs.declared.numbers.Number.{Number}
use Rattle.text.specs.declared.numbers.Number.TheVariants.{Plus, Minus}
use Rattle.std.specs.Prelude as std
use Rattle.std.specs.Prelude.{Some, None}
use Rattle.records.specs.declared.parse.Name.{Name}
use Rattle.records.specs.declared.parse.Fault.{Fault}
use Rattle.records.specs.declared.parse.Record.{Record}
use Rattle.records.specs.declared.parse.Record.TheVariants.{Open, Rate, Sample, Clear, Bad}

-- the first field is the record's name
unfoldable pub name_of : List ℕ → Name
name_of field =
    cond (same field (bytes "cic")) Name.Cic
    (cond (same field (bytes "cic64")) Name.Cic64
    (cond (same field (bytes "rate")) Name.Rate
    (cond (same field (bytes "x")) Name.X
    (cond (same field (bytes "clear")) Name.Clear Name.Unknown))))

abbrev pub is_known : Name → Bool
is_known Name.Cic = true
is_known Name.Cic64 = true
is_known Name.Rate = true
is_known Name.X = true
is_known Name.Clear = true
is_known Name.Unknown = false

-- N, M and rate are of u32, v is of the session's word
pub data Kind : Type 0 where
  natural : Kind
  sample : Kind

-- the kinds of the fields that follow the name
abbrev pub kinds_of : Name → List Kind
kinds_of Name.Cic = natural ∷ natural ∷ natural ∷ []
kinds_of Name.Cic64 = natural ∷ natural ∷ natural ∷ []
kinds_of Name.Rate = natural ∷ []
kinds_of Name.X = sample ∷ []
kinds_of Name.Clear = []
kinds_of Name.Unknown = []

abbrev pub wanted_of : Name → ℕ
wanted_of name = length (kinds_of name)

-- the word of `cic64` (true), or of `cic` and of a replay that no record has opened yet: i64 or i32
abbrev pub word_range : Bool → Range
word_range true = range 9223372036854775808 9223372036854775807
word_range false = signed

abbrev pub range_of : Bool → Kind → Range
range_of wide natural = unsigned
range_of wide sample = word_range wide

-- 75: not a well-formed number, and none is minus 0; 76: outside its range; else 0
abbrev pub number_number : Range → std.Option Number → ℕ
number_number r (Some (Plus v)) = cond (leb v r.most) 0 76
number_number r (Some (Minus v)) = cond (eqb v 0) 75 (cond (leb v r.least) 0 76)
number_number r None = 75

-- the number in field i after the name, its size and its value
abbrev pub field_at : List (List ℕ) → ℕ → std.Option Number
field_at fields i = number_of (get_or fields i [])

abbrev pub size_of : std.Option Number → ℕ
size_of (Some (Plus v)) = v
size_of (Some (Minus v)) = v
size_of None = 0

abbrev pub value_of : std.Option Number → ℤ
value_of (Some (Plus v)) = pos v
value_of (Some (Minus v)) = negsuc (v - 1)
value_of None = pos 0

-- a number, and the place in the line of the field that it is about (the name's is 1), or 0
abbrev pub fault_at : ℕ → ℕ → Fault
fault_at number place = record { number = number; place = place }

-- 73: unknown record; 74: wrong number of fields
abbrev pub unknown_record : Fault
unknown_record = fault_at 73 0

abbrev pub wrong_count : Fault
wrong_count = fault_at 74 0

-- the fields from a place on, left to right: what is wrong with the first bad one, or number 0
abbrev pub fields_fault : Bool → ℕ → List Kind → List (List ℕ) → Fault
fields_fault wide place [] fields = fault_at 0 0
fields_fault wide place (k ∷ ks) [] = fault_at 0 0
fields_fault wide place (k ∷ ks) (f ∷ fs) =
    unless (number_number (range_of wide k) (number_of f)) (fault_at (number_number (range_of wide k) (number_of f)) place)
    (fields_fault wide (place + 1) ks fs)

-- the record of a name, by its fields
abbrev pub named_record : Name → List (List ℕ) → Record
named_record Name.Cic fields = Open false (size_of (field_at fields 0)) (size_of (field_at fields 1)) (size_of (field_at fields 2))
named_record Name.Cic64 fields = Open true (size_of (field_at fields 0)) (size_of (field_at fields 1)) (size_of (field_at fields 2))
named_record Name.Rate fields = Rate (size_of (field_at fields 0))
named_record Name.X fields = Sample (value_of (field_at fields 0))
named_record Name.Clear fields = Clear
named_record Name.Unknown fields = Bad unknown_record

-- unless something is wrong
abbrev pub or_else : Fault → Record → Record
or_else f r = unless f.number (Bad f) r

abbrev pub held_record : Bool → Name → List (List ℕ) → Record
held_record wide name fields = or_else (fields_fault wide 2 (kinds_of name) fields) (named_record name fields)

abbrev pub shaped_of : Bool → Name → List (List ℕ) → Record
shaped_of wide name fields =
    cond (is_known name) (cond (eqb (length fields) (wanted_of name)) (held_record wide name fields) (Bad wrong_count))
    (Bad unknown_record)

abbrev pub fields_record : Bool → List (List ℕ) → Record
fields_record wide [] = Bad unknown_record
fields_record wide (name ∷ fields) = shaped_of wide (name_of name) fields

-- fields parted by one tab
unfoldable pub record_of : Bool → List ℕ → Record
record_of wide line = fields_record wide (parted tab line)
