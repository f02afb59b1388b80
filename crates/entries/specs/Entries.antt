-- How a record stands in the settings by value.
use Rattle.std.specs.Prelude.{cond, List, [], ◌∷◌, ◌++◌, map, ℕ, zero, suc, ◌-◌, ◌%◌, ◌^◌, leb, ℤ, pos, length, take, replicate}
use Rattle.std.specs.Int.{w32}
use Rattle.words.specs.Words.{wrap}
use Rattle.text.specs.Order.{precedes}
use Rattle.settings_text.specs.Lines.{Setting, Cic, Wdf, Dither, cic_number, wdf_number, dither_number, form_of}
use Rattle.settings_text.specs.Stores.{or_else, list_number}
use Rattle.settings_text.specs.declared.version.Version.{Version}
use Rattle.settings_text.specs.declared.version.Version.TheVariants.{One}
use Rattle.entries.specs.declared.settings.Settings.{Settings}
use Rattle.entries.specs.declared.settings.Name.{Name}
use Rattle.entries.specs.declared.settings.Kind.{Kind}
use Rattle.entries.specs.declared.settings.Kind.TheVariants as kinds
use Rattle.entries.specs.declared.settings.Entry.{Entry}

-- the first k of a list, or zeros in their places
abbrev pub pad_to : ℕ → List ℤ → List ℤ
pad_to zero zs = []
pad_to (suc k) [] = pos 0 ∷ pad_to k []
pad_to (suc k) (z ∷ zs) = z ∷ pad_to k zs

-- eight words
abbrev pub eight : List ℤ → List ℤ
eight zs = pad_to 8 (map (wrap w32) zs)

-- a name in 16 bytes, and then zeros
abbrev pub padded : List ℕ → Name
padded l = record { bytes = l ++ replicate (16 - length l) 0; len = length l }

abbrev pub name_bytes : Name → List ℕ
name_bytes n = take n.len n.bytes

-- the name before the first record's
abbrev pub empty_name : Name
empty_name = padded []

-- the entry of a record
abbrev pub entry : List ℕ → Kind → List ℤ → Entry
entry name kind cs = record { name = padded name; kind = kind; a = eight cs }

unfoldable pub entry_of : Setting → Entry
entry_of (Cic name n m rate) = entry name (kinds.Cic n m rate) []
entry_of (Wdf name arch cs) = entry name (kinds.Wdf (length cs) (arch % 2 ^ 32)) cs
entry_of (Dither name f cs) = entry name (kinds.Dither f) cs

-- what stands where there is no record
abbrev pub empty_entry : Entry
empty_entry = entry [] (kinds.Cic 0 1 0) []

-- the record of an entry. Coefficients beyond the eighth are zero, and so are a name's bytes beyond the sixteenth: either is refused
unfoldable pub setting_by : List ℕ → Kind → List ℤ → Setting
setting_by name (kinds.Cic n m rate) a = Cic name n m rate
setting_by name (kinds.Wdf k arch) a = Wdf name arch (take k a ++ replicate (k - 8) (pos 0))
setting_by name (kinds.Dither f) a = Dither name f a

abbrev pub whole_name : Name → List ℕ
whole_name n = name_bytes n ++ replicate (n.len - 16) 0

abbrev pub entry_setting : Entry → Setting
entry_setting e = setting_by (whole_name e.name) e.kind (map (wrap w32) e.a)

-- the records of the settings
abbrev pub records_in : Settings → List Setting
records_in s = map entry_setting (take s.count s.entries)

-- the number of the first bad record in a form, or 83 where there are more than 64
unfoldable pub number_as : Version → Settings → ℕ
number_as v s = or_else (list_number (form_of v) (records_in s)) (cond (leb s.count 64) 0 83)

-- in form 1
abbrev pub store_number : Settings → ℕ
store_number s = number_as One s

-- the parameter numbers of an entry, and before these 83 and 82 after k records, the last of them named `last`
abbrev pub kind_number : Version → Kind → List ℤ → ℕ
kind_number v (kinds.Cic n m rate) a = cic_number v n m rate
kind_number v (kinds.Wdf k arch) a = wdf_number v k arch
kind_number v (kinds.Dither f) a = dither_number f a

unfoldable pub number_for : Version → ℕ → List ℕ → List ℕ → Kind → List ℤ → ℕ
number_for v k last name kind a = cond (leb 64 k) 83 (cond (precedes last name) (kind_number v kind a) 82)
