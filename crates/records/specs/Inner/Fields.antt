-- One field of a line after another.
use Rattle.std.specs.Prelude.{◌≡◌, List, ℕ, ◌≤◌, length, drop, Bool, pos}
use Rattle.text.specs.Letters.{tab}
use Rattle.text.specs.Numbers.{capped}
use Rattle.text.specs.Parts.{behind}
use Rattle.text.specs.declared.numbers.Number.{Number}
use Rattle.std.specs.Prelude as std
use Rattle.std.specs.Prelude.{Some, None}
use Rattle.blocks.specs.Blocks.{unless}
use Rattle.text.specs.Ranges.{unsigned}
use Rattle.records.specs.Lines.{word_range, number_number, size_of, value_of, fault_at, field_at}
use Rattle.records.specs.declared.parse.Natural.{Natural}
use Rattle.records.specs.declared.parse.Integer.{Integer}
use Rattle.records.specs.declared.parse.Record.{Record}
use Rattle.records.specs.declared.parse.Record.TheVariants.{Open, Rate, Sample, Bad}

-- The first field after the tab at e holds the number v and ends at f.
pub record Reads (l : List ℕ) (e : ℕ) (v : std.Option Number) (f : ℕ) : Type 0 where
  pub within : f ≤ length l
  pub value : v ≡ capped (field_at (behind tab (drop e l)) 0)
  pub rest : behind tab (drop f l) ≡ drop 1 (behind tab (drop e l))

-- What is wrong with a number of u32 or of the word, and the number where nothing is.
abbrev pub natural_of : std.Option Number → Natural
natural_of n = record { number = number_number unsigned n; value = unless (number_number unsigned n) 0 (size_of n) }

abbrev pub integer_of : Bool → std.Option Number → Integer
integer_of wide n = record {
  number = number_number (word_range wide) n;
  value = unless (number_number (word_range wide) n) (pos 0) (value_of n);
}

-- The opening record of three numbers.
abbrev pub opening_of : Bool → Natural → Natural → Natural → Record
opening_of wide a b c =
    unless a.number (Bad (fault_at a.number 2))
    (unless b.number (Bad (fault_at b.number 3))
    (unless c.number (Bad (fault_at c.number 4)) (Open wide a.value b.value c.value)))

-- The records of a line's fields, by their numbers.
abbrev pub opening_fields : Bool → List (List ℕ) → Record
opening_fields wide fields = opening_of wide (natural_of (field_at fields 0)) (natural_of (field_at fields 1)) (natural_of (field_at fields 2))

abbrev pub rate_of : Natural → Record
rate_of a = unless a.number (Bad (fault_at a.number 2)) (Rate a.value)

abbrev pub sample_of : Integer → Record
sample_of a = unless a.number (Bad (fault_at a.number 2)) (Sample a.value)
