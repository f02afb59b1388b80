-- A store read a line at a time: what is left to read, after the settings so far.
use native.Mathlib.Omega.{arith}
use native.Mathlib.Numerals.{add-one}
use mathlib.Core.Path.{◌≡◌, refl, sym, ap, ◌∙◌}
use mathlib.Core.Bool.{Bool, true, false, cond}
use mathlib.Core.List.{List, [], ◌∷◌, ◌++◌, map, map-append, append_assoc}
use mathlib.Core.Option.{Option as Maybe, none, some}
use Prim.Native.Nat.{ℕ, zero, suc, ◌+◌, ◌-◌, ◌≤◌, ◌<◌}
use lib.Dec.{leb, eqb}
use lib.ListN.{length, set, replicate, length-append}
use lib.Seq.{set_at}
use mir.Syntax.{w32}
use borrow.Author.Tests.{eq-eqb, eqb-true, ne_eqb, leb-false}
use Rattle.std.specs.Prelude.{Some, None, Result, Ok, Err}
use Rattle.blocks.specs.declared.refusal.Refusal.{Refusal}
use Rattle.blocks.specs.Refusals.{refusal_at, answer}
use Rattle.blocks.proofs.Refusals.{accepted, refused_too, taken_number, taken_value}
use Rattle.words.specs.Words.{wrap}
use Rattle.text.specs.Order.{precedes}
use Rattle.text.specs.Parts.{parted, joined_by}
use Rattle.text.specs.Same.{same}
use Rattle.text.proofs.Joining.{joined-parted}
use Rattle.text.proofs.Parting.{parted-length}
use Rattle.settings_text.specs.Lines.{Setting, form_of, heading, record_in, record_name, version_in, version_of}
use Rattle.settings_text.specs.Stores.{Bad, Found, Good, with_first, line_then, lines_in, opened_by, read_of, record_number}
use Rattle.settings_text.proofs.Lines.{line-fits, line-only}
use Rattle.settings_text.specs.declared.version.Version.{Version}
use Rattle.settings_text.specs.declared.version.Version.TheVariants.{One, Two}
use Rattle.entries.specs.Entries.{empty_entry, entry_of, name_bytes, number_for}
use Rattle.store_read.specs.Reading.{found, line_read, entry_read}
use Rattle.store_read.specs.declared.reading.BadLine.{BadLine}
use Rattle.entries.specs.declared.settings.Entry.{Entry}
use Rattle.entries.specs.declared.settings.Name.{Name}
use Rattle.entries.specs.declared.settings.Settings.{Settings}
use Rattle.entries.proofs.Numbering.{entry-name, number-kept}

pub parts_some : (l : List ℕ) → 0 < length (parted 10 l)
parts_some l = omega (arith, parted-length 10 l)

-- a text of one part is that part
pub one-part : (l p : List ℕ) → parted 10 l ≡ p ∷ [] → p ≡ l
unfolding joined_by
one-part l p e = sym (ap (joined_by 10) e) ∙ joined-parted 10 l

-- whether any text is left
pub some_left : (l : List ℕ) (b : Bool) → b ≡ eqb (length l) 0 → b ≡ false → length l ≡ 0 → ⊥
some_left l b e h z = let y : true ≡ false = sym (e ∙ eq-eqb (length l) 0 z) ∙ h in cc

pub none_left : (l : List ℕ) (b : Bool) → b ≡ eqb (length l) 0 → b ≡ true → l ≡ []
none_left [] b e h = refl
none_left (x ∷ l) b e h = let z = eqb-true (suc (length l)) 0 (sym e ∙ h) in absurd (omega arith)

abbrev pub bad : ℕ → Refusal → Result Settings BadLine
bad line refusal = Err (record { line = line; refusal = refusal })

module _ (v : Version) where
  lines_on : (k : ℕ) (last line : List ℕ) (parts : List (List ℕ)) → 0 < length parts
      → lines_in (form_of v) k last (line ∷ parts) ≡ line_then (form_of v) k last (record_in v line) (λ s. lines_in (form_of v) (suc k) (record_name s) parts)
  unfolding lines_in form_of
  lines_on k last line [] h = absurd (omega arith)
  lines_on k last line (p ∷ parts) h = refl

  -- a line's record is judged
  module _ (k : ℕ) (last line : List ℕ) where
    pub no_entry_there : None ≡ line_read (record_in v line) → Err Refusal.SettingsLine ≡ entry_read v k last (record_in v line)
    no_entry_there e = by (record_in v line) e
      where
        by : (o : Maybe Setting) → None ≡ line_read o → Err Refusal.SettingsLine ≡ entry_read v k last o
        by none e = refl
        by (some s) e = cc

    module _ (x : Entry) (e : Some x ≡ line_read (record_in v line)) where
      entry_judged : answer (number_for v k last (name_bytes x.name) x.kind (map (wrap w32) x.a)) x ≡ entry_read v k last (record_in v line)
      entry_judged = by (record_in v line) refl e
        where
          by : (o : Maybe Setting) → record_in v line ≡ o → Some x ≡ line_read o
              → answer (number_for v k last (name_bytes x.name) x.kind (map (wrap w32) x.a)) x ≡ entry_read v k last o
          by none f e = cc
          by (some s) f e =
              let q : x ≡ entry_of s = cc in
              rw q (ap (λ (n : ℕ). answer n (entry_of s)) (number-kept v k last s (line-fits v line s f) (line-only v line s f).1))

      pub entry_refused : (r : Refusal) → ◌≡◌ {A = Result (Unit {0}) Refusal} (Err r) (answer (number_for v k last (name_bytes x.name) x.kind (map (wrap w32) x.a)) tt)
          → Err r ≡ entry_read v k last (record_in v line)
      entry_refused r h = refused_too _ tt x r h ∙ entry_judged

      pub entry_taken : ◌≡◌ {A = Result (Unit {0}) Refusal} (Ok tt) (answer (number_for v k last (name_bytes x.name) x.kind (map (wrap w32) x.a)) tt)
          → Ok x ≡ entry_read v k last (record_in v line)
      entry_taken h = accepted _ x (taken_number _ tt tt h) ∙ entry_judged

  -- the settings so far, before what is left
  abbrev pub prepended : List Setting → Found Setting → Found Setting
  prepended [] r = r
  prepended (s ∷ ss) r = with_first (form_of v) s (prepended ss r)

  prepended_on : (ss : List Setting) (s : Setting) (r : Found Setting) → prepended ss (with_first (form_of v) s r) ≡ prepended (ss ++ (s ∷ [])) r
  prepended_on [] s r = refl
  prepended_on (t ∷ ss) s r = ap (with_first (form_of v) t) (prepended_on ss s r)

  prepended_bad : (ss : List Setting) (line n : ℕ) → prepended ss (Bad line n) ≡ Bad line n
  prepended_bad [] line n = refl
  prepended_bad (s ∷ ss) line n = ap (with_first (form_of v) s) (prepended_bad ss line n)

  prepended_good : (ss : List Setting) → prepended ss (Good []) ≡ Good ss
  prepended_good [] = refl
  prepended_good (s ∷ ss) = ap (with_first (form_of v) s) (prepended_good ss)

  -- the records of a text's lines so far, and the text that is left
  pub record Going (text : List ℕ) (entries : List Entry) (last : Name) (n : ℕ) (left : List ℕ) : Type 0 where
    pub before : List Setting
    pub counted : length before ≡ n
    pub room : n ≤ 64
    pub shape : entries ≡ map entry_of before ++ replicate (64 - n) empty_entry
    pub rest : lines_in (form_of v) 0 [] (parted 10 text) ≡ prepended before (lines_in (form_of v) n (name_bytes last) (parted 10 left))

  pub started : (text : List ℕ) (last : Name) → name_bytes last ≡ [] → Going text (replicate 64 empty_entry) last 0 text
  started text last z = record { before = []; counted = refl; room = omega arith; shape = refl; rest = rw z }

  room_of : (k : ℕ) (last : List ℕ) (s : Setting) → record_number (form_of v) k last s ≡ 0 → k < 64
  unfolding record_number
  room_of k last s e = by (leb 64 k) refl e
    where
      by : (t : Bool) → leb 64 k ≡ t → cond t 83 (cond (precedes last ((form_of v).record_name s)) ((form_of v).parameters s) 82) ≡ 0 → k < 64
      by true f g = absurd (omega arith)
      by false f g = leb-false 64 k f

  map-length : (ss : List Setting) → length (map entry_of ss) ≡ length ss
  map-length [] = refl
  map-length (s ∷ ss) = ap suc (map-length ss)

  -- an entry more
  stored : (ss : List Setting) (s : Setting) (n : ℕ) → length ss ≡ n → n < 64
      → set (map entry_of ss ++ replicate (64 - n) empty_entry) n (entry_of s) ≡ map entry_of (ss ++ (s ∷ [])) ++ replicate (64 - (n + 1)) empty_entry
  stored ss s n e h =
      let m : 64 - n ≡ suc (64 - (n + 1)) = omega arith in
      ap (λ (k : ℕ). set (map entry_of ss ++ replicate k empty_entry) n (entry_of s)) m
      ∙ set_at (map entry_of ss) empty_entry (replicate (64 - (n + 1)) empty_entry) (entry_of s) n (map-length ss ∙ e)
      ∙ sym (ap (λ (l : List Entry). l ++ replicate (64 - (n + 1)) empty_entry) (map-append entry_of ss (s ∷ [])) ∙ append_assoc
      (map entry_of ss) (entry_of s ∷ []) (replicate (64 - (n + 1)) empty_entry))

  module _ (text : List ℕ) (entries : List Entry) (last : Name) (n : ℕ) where
    pub over : Going text entries last n [] → Ok (record { count = n; entries = entries }) ≡ found (lines_in (form_of v) 0 [] (parted 10 text))
    unfolding lines_in parted
    over g =
        let r : lines_in (form_of v) 0 [] (parted 10 text) ≡ Good g.before = g.rest ∙ prepended_good g.before in
        rw (r, g.counted, g.shape)

    module _ (left : List ℕ) (g : Going text entries last n left) where
      pub unended : (line : List ℕ) → parted 10 left ≡ line ∷ [] → (length left ≡ 0 → ⊥)
          → bad (n + 2) Refusal.SettingsLine ≡ found (lines_in (form_of v) 0 [] (parted 10 text))
      unfolding lines_in refusal_at
      unended line p h =
          let d : length line ≡ 0 → ⊥ = λ z. h (ap length (sym (one-part left line p)) ∙ z) in
          let e : lines_in (form_of v) n (name_bytes last) (parted 10 left) ≡ Bad (n + 2) 81 =
          ap (lines_in (form_of v) n (name_bytes last)) p ∙ rw (ne_eqb (length line) 0 d) in
          sym (ap found (g.rest ∙ ap (prepended g.before) e ∙ prepended_bad g.before (n + 2) 81))

      module _ (line next : List ℕ) (p : parted 10 left ≡ line ∷ parted 10 next) where
        line_here : lines_in (form_of v) n (name_bytes last) (parted 10 left)
            ≡ line_then (form_of v) n (name_bytes last) (record_in v line) (λ s. lines_in (form_of v) (suc n) (record_name s) (parted 10 next))
        line_here = ap (lines_in (form_of v) n (name_bytes last)) p ∙ lines_on n (name_bytes last) line (parted 10 next) (parts_some next)

        pub stops : (r : Refusal) → Err r ≡ entry_read v n (name_bytes last) (record_in v line)
            → bad (n + 2) r ≡ found (lines_in (form_of v) 0 [] (parted 10 text))
        unfolding answer refusal_at
        stops r q = by (record_in v line) refl q
          where
            told : (k : ℕ) → refusal_at k ≡ r → lines_in (form_of v) n (name_bytes last) (parted 10 left) ≡ Bad (n + 2) k
                → bad (n + 2) r ≡ found (lines_in (form_of v) 0 [] (parted 10 text))
            told k f e = sym (ap found (g.rest ∙ ap (prepended g.before) e ∙ prepended_bad g.before (n + 2) k) ∙ ap (bad (n + 2)) f)

            held : (s : Setting) (k : ℕ) → record_number (form_of v) n (name_bytes last) s ≡ k → record_in v line ≡ some s
                → Err r ≡ answer k (entry_of s) → bad (n + 2) r ≡ found (lines_in (form_of v) 0 [] (parted 10 text))
            held s zero d f q = cc
            held s (suc k) d f q =
                let i : refusal_at (suc k) ≡ r = cc in
                told (suc k) i (line_here ∙ rw (f, d))

            by : (o : Maybe Setting) → record_in v line ≡ o → Err r ≡ entry_read v n (name_bytes last) o
                → bad (n + 2) r ≡ found (lines_in (form_of v) 0 [] (parted 10 text))
            by none f q = let i : Refusal.SettingsLine ≡ r = cc in told 81 i (line_here ∙ rw f)
            by (some s) f q = held s (record_number (form_of v) n (name_bytes last) s) refl f q

        pub record Took (x : Entry) : Type 0 where
          pub room : n < 64
          pub going : Going text (set entries n x) x.name (n + 1) next

        pub takes : (x : Entry) → Ok x ≡ entry_read v n (name_bytes last) (record_in v line) → Took x
        takes x q = by (record_in v line) refl q
          where
            by : (o : Maybe Setting) → record_in v line ≡ o → Ok x ≡ entry_read v n (name_bytes last) o → Took x
            by none f q = cc
            by (some s) f q =
                let d = taken_number (record_number (form_of v) n (name_bytes last) s) (entry_of s) x q in
                let i : x ≡ entry_of s = taken_value (record_number (form_of v) n (name_bytes last) s) (entry_of s) x q in
                let m = room_of n (name_bytes last) s d in
                let y : name_bytes x.name ≡ record_name s = ap (λ (y : Entry). name_bytes y.name) i ∙ entry-name s in
                let on = lines_in (form_of v) (suc n) (record_name s) (parted 10 next) in
                let j : lines_in (form_of v) n (name_bytes last) (parted 10 left) ≡ with_first (form_of v) s on = line_here ∙ rw (f, d) in
                let u : on ≡ lines_in (form_of v) (n + 1) (name_bytes x.name) (parted 10 next) = rw (y, add-one n) in
                record {
                  room = m;
                  going = record {
                    before = g.before ++ (s ∷ []);
                    counted = length-append g.before (s ∷ []) ∙ omega (arith, g.counted);
                    room = omega arith;
                    shape = rw (i, g.shape) (stored g.before s n g.counted m);
                    rest = g.rest ∙ ap (prepended g.before) j ∙ prepended_on g.before s on ∙ ap (prepended (g.before ++ (s ∷ []))) u;
                  };
                }

  -- the first line
  module _ (text first : List ℕ) where
    pub no_line : parted 10 text ≡ first ∷ [] → bad 1 Refusal.StoreForm ≡ found (read_of (form_of v) text)
    unfolding read_of opened_by form_of refusal_at
    no_line p = sym (rw p)

    module _ (next : List ℕ) (p : parted 10 text ≡ first ∷ parted 10 next) where
      opened : opened_by (form_of v) (parted 10 text) ≡ cond (same first (heading v)) (lines_in (form_of v) 0 [] (parted 10 next)) (Bad 1 80)
      unfolding opened_by form_of
      opened = rw p (by (parted 10 next) (parts_some next))
        where
          by : (ps : List (List ℕ)) → 0 < length ps
              → opened_by (form_of v) (first ∷ ps) ≡ cond (same first (heading v)) (lines_in (form_of v) 0 [] ps) (Bad 1 80)
          by [] h = absurd (omega arith)
          by (x ∷ ps) h = refl

      pub other_line : same first (heading v) ≡ false → bad 1 Refusal.StoreForm ≡ found (read_of (form_of v) text)
      unfolding read_of refusal_at
      other_line q = let e : opened_by (form_of v) (parted 10 text) ≡ Bad 1 80 = opened ∙ rw q in sym (ap found e)

      pub first_line : same first (heading v) ≡ true → lines_in (form_of v) 0 [] (parted 10 next) ≡ read_of (form_of v) text
      unfolding read_of
      first_line q = sym (opened ∙ rw q)

-- the form that the first line opens
module _ (text first : List ℕ) where
  pub no_form : parted 10 text ≡ first ∷ [] → One ≡ version_of text
  unfolding version_of
  no_form p = sym (rw p)

  pub line_form : (next : List ℕ) → parted 10 text ≡ first ∷ parted 10 next → cond (same first (heading Two)) Two One ≡ version_of text
  unfolding version_of
  line_form next p = sym (rw p (by (parted 10 next) (parts_some next)))
    where
      by : (ps : List (List ℕ)) → 0 < length ps → version_in (first ∷ ps) ≡ cond (same first (heading Two)) Two One
      by [] l = absurd (omega arith)
      by (x ∷ ps) l = refl
