-- A record as its caller keeps and lends it: its kind is a number, 0 for a decimator, 1 for a wave digital filter, any other for a dithered biquad,
-- and it has a field for each number of each kind. A form is 2, and any other number is form 1.
use Rattle.std.specs.Prelude.{cond, List, ℕ, eqb, ℤ}
use Rattle.settings_text.specs.Lines.{version_number}
use Rattle.settings_text.specs.declared.version.Version.{Version}
use Rattle.settings_text.specs.declared.version.Version.TheVariants.{One, Two}
use Rattle.entries.specs.declared.settings.Entry.{Entry}
use Rattle.entries.specs.declared.settings.Kind.{Kind}
use Rattle.entries.specs.declared.settings.Kind.TheVariants as kinds
use Rattle.capi_settings.specs.declared.parts.Numbers.{Numbers}

unfoldable pub version_at : ℕ → Version
version_at form = cond (eqb form 2) Two One

abbrev pub form_number : Version → ℕ
form_number v = version_number v

abbrev pub numbers_at : ℕ → ℕ → ℕ → ℕ → ℕ → ℕ → ℕ → Numbers
numbers_at kind order delay rate sections architecture f = record {
  kind = kind;
  order = order;
  delay = delay;
  rate = rate;
  sections = sections;
  architecture = architecture;
  f = f;
}

-- the numbers that a kind has not are 0
unfoldable pub numbers_of : Kind → Numbers
numbers_of (kinds.Cic n m rate) = numbers_at 0 n m rate 0 0 0
numbers_of (kinds.Wdf k arch) = numbers_at 1 0 0 0 k arch 0
numbers_of (kinds.Dither f) = numbers_at 2 0 0 0 0 0 f

unfoldable pub kind_at : Numbers → Kind
kind_at n = cond (eqb n.kind 0) (kinds.Cic n.order n.delay n.rate) (cond (eqb n.kind 1) (kinds.Wdf n.sections n.architecture) (kinds.Dither n.f))

-- a record's fields
pub record Fields : Type 0 where
  pub name : List ℕ
  pub len : ℕ
  pub numbers : Numbers
  pub a : List ℤ

abbrev pub fields_at : List ℕ → ℕ → ℕ → ℕ → ℕ → ℕ → ℕ → ℕ → ℕ → List ℤ → Fields
fields_at name len kind order delay rate sections architecture f a = record {
  name = name;
  len = len;
  numbers = numbers_at kind order delay rate sections architecture f;
  a = a;
}

abbrev pub fields_of : Entry → Fields
fields_of e = record { name = e.name.bytes; len = e.name.len; numbers = numbers_of e.kind; a = e.a }

abbrev pub entry_at : Fields → Entry
entry_at s = record { name = record { bytes = s.name; len = s.len }; kind = kind_at s.numbers; a = s.a }
