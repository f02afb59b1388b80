-- The replay program's answer, a line at a time, and the first line, which says how it becomes a recording.
use Rattle.std.specs.Prelude.{Bool, false, cond, List, ℕ, ◌+◌, ◌-◌, leb, ltb, eqb, ℤ, pos, negsuc, length, take, drop, Option, Some, None}
use Rattle.text.specs.Letters.{bytes, tab}
use Rattle.text.specs.Same.{same}
use Rattle.text.specs.Numbers.{number_of, capped}
use Rattle.text.specs.Parts.{count, end_of}
use Rattle.text.specs.declared.numbers.Number.{Number}
use Rattle.text.specs.declared.numbers.Number.TheVariants.{Plus, Minus}
use Rattle.wav_lines.specs.declared.answers.Name.{Name}
use Rattle.wav_lines.specs.declared.answers.Line.{Line}

-- the field that starts at a place, and where the next one starts: the line's end where there is none
abbrev pub field_from : List ℕ → ℕ → List ℕ
field_from l from = take (end_of tab l from - from) (drop from l)

abbrev pub next_from : List ℕ → ℕ → ℕ
next_from l from = cond (ltb (end_of tab l from) (length l)) (end_of tab l from + 1) (length l)

-- the number in it
abbrev pub number_from : List ℕ → ℕ → Option Number
number_from l from = capped (number_of (field_from l from))

-- from 0 to 2 ^ 63
abbrev pub natural_in : Option Number → Option ℕ
natural_in (Some (Plus v)) = cond (leb v 9223372036854775808) (Some v) None
natural_in (Some (Minus v)) = None
natural_in None = None

-- within i64; no number is minus 0
abbrev pub integer_in : Option Number → Option ℤ
integer_in (Some (Plus v)) = cond (leb v 9223372036854775807) (Some (pos v)) None
integer_in (Some (Minus v)) =
    cond (eqb v 0) None (cond (leb v 9223372036854775808) (Some (negsuc (v - 1))) None)
integer_in None = None

abbrev pub given_natural : Option ℕ → (ℕ → Option Line) → Option Line
given_natural (Some n) make = make n
given_natural None make = None

abbrev pub given_integer : Option ℤ → (ℤ → Option Line) → Option Line
given_integer (Some v) make = make v
given_integer None make = None

-- `settled`: none that is told a count above 0; `all`: any
unfoldable pub kept_in : List ℕ → Option ℕ
kept_in field =
    cond (same field (bytes "settled")) (Some 0)
    (cond (same field (bytes "all")) (Some 9223372036854775808) None)

-- `wav`, rate, k, `settled` or `all`
abbrev pub setting_of : ℕ → ℕ → ℕ → Option Line
setting_of rate shift most =
    cond (ltb 4294967295 rate) None
    (cond (ltb 63 shift) None (Some (Line.Settings (record { rate = rate; shift = shift; most = most }))))

abbrev pub settings_in : List ℕ → ℕ → Option Line
settings_in l from =
    given_natural (natural_in (number_from l from)) (λ rate.
    given_natural (natural_in (number_from l (next_from l from))) (λ shift.
    given_natural (kept_in (field_from l (next_from l (next_from l from)))) (λ most. setting_of rate shift most)))

abbrev pub output_with : ℤ → ℕ → Option Line
output_with value told = Some (Line.Output (record { value = value; told = told }))

-- `y`, value, told count
abbrev pub output_in : List ℕ → ℕ → Option Line
output_in l from =
    given_integer (integer_in (number_from l from)) (λ value.
    given_natural (natural_in (number_from l (next_from l from))) (λ told. output_with value told))

-- `end`, count
abbrev pub end_in : List ℕ → ℕ → Option Line
end_in l from = given_natural (natural_in (number_from l from)) (λ count. Some (Line.End count))

abbrev pub bad_with : ℕ → ℕ → Option Line
bad_with line number = cond (eqb number 0) None (Some (Line.Bad (record { line = line; number = number })))

-- `bad`, line, number, and perhaps more
abbrev pub bad_in : List ℕ → ℕ → Option Line
bad_in l from =
    given_natural (natural_in (number_from l from)) (λ line.
    given_natural (natural_in (number_from l (next_from l from))) (λ number.
    bad_with line number))

-- the name, of `y`, `end`, `bad` and `wav`
unfoldable pub name_in : List ℕ → Option Name
name_in field =
    cond (same field (bytes "y")) (Some Name.Y)
    (cond (same field (bytes "end")) (Some Name.End)
    (cond (same field (bytes "bad")) (Some Name.Bad)
    (cond (same field (bytes "wav")) (Some Name.Wav) None)))

-- as many tabs as the name's fields ask for
abbrev pub shaped_by : Option Name → ℕ → Bool
shaped_by (Some Name.Y) tabs = eqb tabs 2
shaped_by (Some Name.End) tabs = eqb tabs 1
shaped_by (Some Name.Bad) tabs = leb 2 tabs
shaped_by (Some Name.Wav) tabs = eqb tabs 3
shaped_by None tabs = false

abbrev pub filled_in : Option Name → List ℕ → ℕ → Option Line
filled_in (Some Name.Y) l from = output_in l from
filled_in (Some Name.End) l from = end_in l from
filled_in (Some Name.Bad) l from = bad_in l from
filled_in (Some Name.Wav) l from = settings_in l from
filled_in None l from = None

-- a line without its newline
abbrev pub named_line : Option Name → List ℕ → Option Line
named_line name l = cond (shaped_by name (count tab l)) (filled_in name l (next_from l 0)) None

unfoldable pub line_in : List ℕ → Option Line
line_in l = named_line (name_in (field_from l 0)) l
