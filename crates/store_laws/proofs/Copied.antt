-- What was read is written as it stood: an entry holds its record whole, so the settings have the text that they were read from.
use native.Mathlib.Omega.{arith}
use native.Mathlib.Nat.{pow-le-pow_right}
use mathlib.Core.Path.{◌≡◌, refl, sym, ap, ◌∙◌}
use mathlib.Core.Bool.{Bool, true, false, cond}
use mathlib.Core.List.{List, [], ◌∷◌, ◌++◌, map, append-nil}
use Prim.Native.Nat.{ℕ, zero, suc, ◌+◌, ◌-◌, ◌%◌, ◌/◌, ◌^◌, ◌≤◌, ◌<◌}
use lib.Dec.{leb}
use lib.IntN.{ℤ, pos}
use lib.ListN.{length, take, replicate}
use lib.Seq.{take_at}
use mir.Syntax.{w32}
use borrow.Author.Tests.{leb-false, le-leb}
use Rattle.words.specs.Words.{wrap}
use Rattle.text.specs.Order.{precedes}
use Rattle.text.specs.Ranges.{signed, unsigned, lies, all_lie}
use Rattle.text.proofs.Ranges.{two}
use Rattle.settings_text.specs.Fields.{is_name}
use Rattle.settings_text.specs.Lines.{Setting, Cic, Wdf, Dither, formed, parameters, form_of}
use Rattle.settings_text.specs.Stores.{record_number, listed_number, list_from, list_number, text_of}
use Rattle.settings_text.specs.declared.version.Version.{Version}
use Rattle.settings_text.proofs.Forms.{only-text}
use Rattle.settings_text.proofs.Lines.{wdf_small, below}
use Rattle.settings_text.proofs.Names.{name-short}
use Rattle.settings_text.proofs.Stores.{both_zero, write_zero, no_parameter}
use Rattle.entries.specs.Entries.{pad_to, eight, padded, whole_name, entry_of, setting_by, entry_setting, records_in}
use Rattle.entries.specs.Entries.{number_as, empty_entry}
use Rattle.store_laws.specs.Laws.{CopySame}
use Rattle.entries.specs.declared.settings.Entry.{Entry}
use Rattle.entries.proofs.Arrays.{name_back, whole-name}
use Rattle.entries.proofs.Numbering.{kept, eight_words}

-- coefficients of i32 are their words
words_back : (k : ℕ) (cs : List ℤ) → length cs ≤ k → all_lie signed cs ≡ true → take (length cs)
    (map (wrap w32) (pad_to k (map (wrap w32) cs))) ≡ cs
words_back k [] l h = refl
words_back zero (z ∷ cs) l h = absurd (omega arith)
words_back (suc k) (z ∷ cs) l h =
    let p = two (lies signed z) (all_lie signed cs) h in
    rw (kept z p.0, kept z p.0) (ap (λ (x : List ℤ). z ∷ x) (words_back k cs (omega arith) p.1))

name-whole : (name : List ℕ) → length name ≤ 16 → whole_name (padded name) ≡ name
name-whole name h = whole-name (padded name) h ∙ name_back name

pub small : (arch k : ℕ) → k ≤ 8 → arch / 16 ^ k ≡ 0 → arch % 2 ^ 32 ≡ arch
small arch k h e =
    let b = below k arch e in
    let p : 16 ^ k ≤ 16 ^ 8 = pow-le-pow_right (omega arith) h in
    omega arith

pub record_back : (v : Version) (s : Setting) → formed v s ≡ true → parameters v s ≡ 0 → entry_setting (entry_of s) ≡ s
unfolding formed parameters entry_of setting_by
record_back v (Cic name n m rate) h e =
    let a = two (is_name name) (all_lie unsigned (pos n ∷ pos m ∷ pos rate ∷ [])) h in
    ap (λ (x : List ℕ). Cic x n m rate) (name-whole name (name-short name a.0))
record_back v (Wdf name arch cs) h e =
    let a = two (is_name name) (all_lie signed cs) h in
    let w = wdf_small v (length cs) arch e in
    let few = w.0 in
    let z : length cs - 8 ≡ 0 = omega arith in
    let c : take (length cs) (map (wrap w32) (eight cs)) ++ replicate (length cs - 8) (pos 0) ≡ cs =
    rw z (append-nil (take (length cs) (map (wrap w32) (eight cs))) ∙ words_back 8 cs few a.1) in
    rw (name-whole name (name-short name a.0), small arch (length cs) few w.1, c)
record_back v (Dither name f cs) h e =
    let w = eight_words v name f cs h in
    rw (name-whole name (name-short name w.named), w.whole)

module _ (v : Version) where
  -- a list that isn't refused: its records come back, and there are at most 64
  records_back : (ss : List Setting) (k : ℕ) (last : List ℕ) → list_from (form_of v) k last ss ≡ 0 → map entry_setting (map entry_of ss) ≡ ss
  unfolding list_from form_of
  records_back [] k last h = refl
  records_back (s ∷ ss) k last h =
      let z = both_zero (form_of v) (listed_number (form_of v) k last s) (list_from (form_of v) (suc k) ((form_of v).record_name s) ss) h in
      let w = write_zero (form_of v) k last s z.0 in
      rw (record_back v s w.0 (no_parameter (form_of v) k last s w.1), records_back ss (suc k) ((form_of v).record_name s) z.1)

  room_of : (k : ℕ) (last : List ℕ) (s : Setting) → record_number (form_of v) k last s ≡ 0 → k < 64
  unfolding record_number
  room_of k last s e = by (leb 64 k) refl e
    where
      by : (t : Bool) → leb 64 k ≡ t → cond t 83 (cond (precedes last ((form_of v).record_name s)) ((form_of v).parameters s) 82) ≡ 0 → k < 64
      by true f g = absurd (omega arith)
      by false f g = leb-false 64 k f

  at_most : (ss : List Setting) (k : ℕ) (last : List ℕ) → list_from (form_of v) k last ss ≡ 0 → k ≤ 64 → k + length ss ≤ 64
  unfolding list_from
  at_most [] k last h r = omega arith
  at_most (s ∷ ss) k last h r =
      let z = both_zero (form_of v) (listed_number (form_of v) k last s) (list_from (form_of v) (suc k) ((form_of v).record_name s) ss) h in
      let m = room_of k last s (write_zero (form_of v) k last s z.0).1 in
      let n = at_most ss (suc k) ((form_of v).record_name s) z.1 (omega arith) in
      omega arith

  map-length : (ss : List Setting) → length (map entry_of ss) ≡ length ss
  map-length [] = refl
  map-length (s ∷ ss) = ap suc (map-length ss)

  -- settings that begin with a list's entries, whatever stands behind them
  pub settings_back : (ss : List Setting) (rest : List Entry) → list_number (form_of v) ss ≡ 0
      → records_in (record { count = length ss; entries = map entry_of ss ++ rest }) ≡ ss
  settings_back ss rest h =
      let t : take (length ss) (map entry_of ss ++ rest) ≡ map entry_of ss = take_at (map entry_of ss) rest (length ss) (map-length ss) in
      ap (map entry_setting) t ∙ records_back ss 0 [] h

  pub settings_number : (ss : List Setting) (rest : List Entry) → list_number (form_of v) ss ≡ 0
      → number_as v (record { count = length ss; entries = map entry_of ss ++ rest }) ≡ 0
  unfolding number_as
  settings_number ss rest h =
      let m = at_most ss 0 [] h (omega arith) in
      rw (settings_back ss rest h, h, le-leb (length ss) 64 (omega arith))

  pub copy_same : CopySame v
  copy_same text ss e =
      let o = only-text v text ss e in
      let rest = replicate (64 - length ss) empty_entry in
      (settings_number ss rest o.1, ap (text_of (form_of v)) (settings_back ss rest o.1) ∙ sym o.0)
