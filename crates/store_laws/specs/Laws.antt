-- 02, A7, of settings by value, in either form; and A12 of the reader of form 1.
use Rattle.std.specs.Prelude.{◌≡◌, List, [], ◌∷◌, ℕ, ℤ}
use Rattle.biquad_fixed.specs.Answers.{clamp_number}
use Rattle.settings_text.specs.declared.version.Version.{Version}
use Rattle.settings_text.specs.Lines.{Setting, form_of, form1, form2, dither_number}
use Rattle.settings_text.specs.Stores.{Good, Bad, read_of}
use Rattle.entries.specs.Entries.{records_in, number_as}
use Rattle.store_read.specs.Reading.{found, settings_of}
use Rattle.store_write.specs.Saving.{text_as}
use Rattle.entries.specs.declared.settings.Settings.{Settings}

-- reading what was written gives the same settings
abbrev pub WrittenReads : Version → Type 0
WrittenReads v = (s : Settings) → number_as v s ≡ 0 → read_of (form_of v) (text_as v s) ≡ Good (records_in s)

-- what was read, `settings_of`, is written as the same bytes
abbrev pub CopySame : Version → Type 0
CopySame v =
    (text : List ℕ) (ss : List Setting) → read_of (form_of v) text ≡ Good ss
    → (number_as v (settings_of ss) ≡ 0) × (text_as v (settings_of ss) ≡ text)

-- what `read_form1` answers to a text that form 2 doesn't refuse by its first line
abbrev pub OldRefuses : Type 0
OldRefuses = (text : List ℕ) → (read_of form2 text ≡ Bad 1 80 → ⊥) → found (read_of form1 text) ≡ found (Bad 1 80)

-- the numbers of a `dither` record are those of the filter that it describes: `BiquadClamp::refusal` for dither, F from 1
abbrev pub FiltersNumber : Type 0
FiltersNumber =
    (f : ℕ) (b0 b1 b2 a1 a2 u lower upper : ℤ)
    → dither_number f (b0 ∷ b1 ∷ b2 ∷ a1 ∷ a2 ∷ u ∷ lower ∷ upper ∷ []) ≡ clamp_number 1 (record {
      coeff = record { b0 = b0; b1 = b1; b2 = b2; a1 = a1; a2 = a2; f = f };
      u = u;
      min = lower;
      max = upper;
    })
