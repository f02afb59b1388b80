-- A move recasts the entries in turn. What is recast holds the moved records, so it is written as the moved text.
use native.Mathlib.Omega.{arith}
use native.Mathlib.Numerals.{add-one}
use native.Mathlib.Nat.{pow-le-pow_right}
use mathlib.Core.Path.{◌≡◌, refl, sym, ap, ◌∙◌}
use mathlib.Core.Bool.{Bool, true, false, cond, ◌||◌}
use mathlib.Core.List.{List, [], ◌∷◌, ◌++◌, map, map-append, append_assoc, append-nil}
use mathlib.Core.Option.{Option, none, some}
use Prim.Native.Nat.{ℕ, zero, suc, ◌+◌, ◌-◌, ◌%◌, ◌^◌, ◌≤◌, ◌<◌}
use lib.Dec.{leb}
use lib.ListN.{length, take, drop, get_or, set, replicate, drop_of_length-le}
use lib.Seq.{take_all, take-suc, drop-cons, set_at, get_or_at, length-take-le}
use borrow.Author.Tests.{lt-ltb}
use Rattle.wdf.specs.Retired.{moved}
use Rattle.wdf.proofs.Retired.{moved_at_most}
use Rattle.text.proofs.Ranges.{both_some}
use Rattle.settings_text.specs.Lines.{Setting, Cic, Wdf, Dither, parameters, form_of}
use Rattle.settings_text.specs.Moves.{Text, placed, placed_text, move, moved_by, raised, lowered, back, any_dither}
use Rattle.settings_text.specs.Stores.{Found, Good, Bad, listed_number, list_from, read_of, text_of}
use Rattle.settings_text.specs.declared.version.Version.{Version}
use Rattle.settings_text.specs.declared.version.Version.TheVariants.{One, Two}
use Rattle.settings_text.proofs.Forms.{only-text}
use Rattle.settings_text.proofs.Lines.{wdf_small, below}
use Rattle.settings_text.proofs.Moves.{Keeps, list_kept, all_placed, missing, dither_missing, number_parts}
use Rattle.settings_text.proofs.Stores.{both_zero, write_zero, no_parameter}
use Rattle.entries.specs.Entries.{empty_entry, entry_of, number_as}
use Rattle.store.specs.Moving.{Moves, unblamed, third_in, architecture_in, recast_entry, recast_in, dither_kind, any_dither_in}
use Rattle.store_read.specs.Reading.{found, settings_of}
use Rattle.store_write.specs.Saving.{SavesAs, text_as}
use Rattle.std.specs.Prelude.{Result, Ok, Err}
use Rattle.blocks.specs.declared.refusal.Refusal.{Refusal}
use Rattle.blocks.specs.Refusals.{refusal_at}
use Rattle.store_read.specs.declared.reading.BadLine.{BadLine}
use Rattle.entries.specs.declared.settings.Entry.{Entry}
use Rattle.entries.specs.declared.settings.Settings.{Settings}
use Rattle.store_laws.proofs.Copied.{settings_back, settings_number, small}

-- the entries recast so far, and those as they were
pub record Recasting (v : Version) (old new : List Entry) (i : ℕ) : Type 0 where
  pub few : i ≤ 64
  pub whole : length old ≡ 64
  pub same : length new ≡ 64
  pub shape : new ≡ map (recast_entry v) (take i old) ++ drop i old

mapped_length : {A B : Type 0} (f : A → B) (l : List A) → length (map f l) ≡ length l
mapped_length f [] = refl
mapped_length f (x ∷ l) = ap suc (mapped_length f l)

module _ (v : Version) (old : List Entry) where
  pub recasting_none : length old ≡ 64 → Recasting v old old 0
  recasting_none l = record { few = omega arith; whole = l; same = l; shape = refl }

  pub recasting_on : (new : List Entry) (i : ℕ) (d e : Entry) → i < 64 → Recasting v old new i → e ≡ recast_entry v (get_or new i d)
      → length (set new i e) ≡ 64 → Recasting v old (set new i e) (i + 1)
  recasting_on new i d e h g p l =
      let w = g.whole in
      let inside : i < length old = omega arith in
      let done = map (recast_entry v) (take i old) in
      let n : length done ≡ i = mapped_length (recast_entry v) (take i old) ∙ length-take-le i old (omega arith) in
      let was : new ≡ done ++ (get_or old i d ∷ drop (suc i) old) = g.shape ∙ ap (λ (r : List Entry). done ++ r) (drop-cons old i d inside) in
      let here : get_or new i d ≡ get_or old i d = ap (λ (r : List Entry). get_or r i d) was ∙ get_or_at done (get_or old i d) (drop (suc i) old) d i n in
      let stored : set new i e ≡ done ++ (e ∷ drop (suc i) old) = ap (λ (r : List Entry). set r i e) was
      ∙ set_at done (get_or old i d) (drop (suc i) old) e i n in
      let q : e ≡ recast_entry v (get_or old i d) = p ∙ ap (recast_entry v) here in
      let more : map (recast_entry v) (take (suc i) old) ≡ done ++ (e ∷ []) =
      ap (map (recast_entry v)) (take-suc old i d inside) ∙ map-append (recast_entry v) (take i old) (get_or old i d ∷ [])
      ∙ ap (λ (x : Entry). done ++ (x ∷ [])) (sym q) in
      record {
        few = omega arith;
        whole = w;
        same = l;
        shape = rw (add-one, more) (stored ∙ sym (append_assoc done (e ∷ []) (drop (suc i) old)));
      }

  pub recasting_all : (new : List Entry) (i : ℕ) → 64 ≤ i → Recasting v old new i → new ≡ map (recast_entry v) old
  recasting_all new i h g =
      let w = g.whole in
      let q : length old ≤ i = omega arith in
      g.shape ∙ rw (take_all i old q, drop_of_length-le old q) (append-nil (map (recast_entry v) old))

-- the entries that are left to look at
module _ (entries : List Entry) (i : ℕ) (d : Entry) (h : i < length entries) (g : any_dither_in entries ≡ any_dither_in (drop i entries)) where
  here : any_dither_in entries ≡ (dither_kind (get_or entries i d).kind || any_dither_in (drop (suc i) entries))
  here = g ∙ ap any_dither_in (drop-cons entries i d h)

  pub dither_here : dither_kind (get_or entries i d).kind ≡ true → true ≡ any_dither_in entries
  dither_here e = sym (here ∙ rw e)

  pub looking_on : dither_kind (get_or entries i d).kind ≡ false → any_dither_in entries ≡ any_dither_in (drop (i + 1) entries)
  looking_on e = rw add-one (here ∙ rw e)

pub looking_all : (entries : List Entry) (i : ℕ) → length entries ≤ i → any_dither_in entries ≡ any_dither_in (drop i entries)
    → false ≡ any_dither_in entries
looking_all entries i h g = sym (g ∙ rw (drop_of_length-le entries h))

-- the entries of what was read
empty_dither : (k : ℕ) → any_dither_in (replicate k empty_entry) ≡ false
empty_dither zero = refl
empty_dither (suc k) = empty_dither k

dither_entries : (ss : List Setting) (k : ℕ) → any_dither_in (map entry_of ss ++ replicate k empty_entry) ≡ any_dither ss
unfolding entry_of
dither_entries [] k = empty_dither k
dither_entries (Cic name n m r ∷ ss) k = dither_entries ss k
dither_entries (Wdf name arch cs ∷ ss) k = dither_entries ss k
dither_entries (Dither name f cs ∷ ss) k = refl

-- each record has a place
pub record Placed {A B : Type 0} (place : A → Option B) (ss : List A) : Type 0 where
  pub there : List B
  pub is : placed place ss ≡ some there

-- a move: its entries recast are those of the moved records
module _ (from to : Version) (place : Setting → Option Setting) (keeps : Keeps (form_of from) (form_of to) place)
    (each : (s t : Setting) → (form_of from).formed s ≡ true → (form_of from).parameters s ≡ 0 → place s ≡ some t → recast_entry to (entry_of s) ≡ entry_of t) where
  recast_list : (ss ts : List Setting) (k : ℕ) (last : List ℕ) → list_from (form_of from) k last ss ≡ 0 → placed place ss ≡ some ts
      → map (recast_entry to) (map entry_of ss) ≡ map entry_of ts
  unfolding list_from
  recast_list [] ts k last e p = let q : [] ≡ ts = cc in rw (← q)
  recast_list (s ∷ ss) ts k last e p =
      let z = both_zero (form_of from) (listed_number (form_of from) k last s) (list_from (form_of from) (suc k) ((form_of from).record_name s) ss) e in
      let w = write_zero (form_of from) k last s z.0 in
      let b = both_some {A = Setting} {B = List Setting} {C = List Setting} (λ t ts. t ∷ ts) (place s) (placed place ss) ts p in
      let q : b.first ∷ b.second ≡ ts = b.is in
      rw (
        ← q,
        each s b.first w.0 (no_parameter (form_of from) k last s w.1) b.here,
        recast_list ss b.second (suc k) ((form_of from).record_name s) z.1 b.there,
      )

  placed-length : (ss ts : List Setting) → placed place ss ≡ some ts → length ts ≡ length ss
  placed-length [] ts p = let q : [] ≡ ts = cc in rw (← q)
  placed-length (s ∷ ss) ts p =
      let b = both_some {A = Setting} {B = List Setting} {C = List Setting} (λ t ts. t ∷ ts) (place s) (placed place ss) ts p in
      let q : b.first ∷ b.second ≡ ts = b.is in
      rw (← q) (ap suc (placed-length ss b.second b.there))

  module _ (text : List ℕ) (o : List ℕ) where
    pub move-refused : (b : BadLine) → Err b ≡ found (read_of (form_of from) text) → Moves (move (form_of from) (form_of to) place text) o (Err b) o
    unfolding move
    move-refused b e = by (read_of (form_of from) text) refl e
      where
        by : (x : Found Setting) → read_of (form_of from) text ≡ x → Err b ≡ found x
            → Moves (moved_by (form_of from) (form_of to) place (read_of (form_of from) text)) o (Err b) o
        by (Good ss) f e = cc
        by (Bad line n) f e =
            let q : b ≡ record { line = line; refusal = refusal_at n } = cc in
            rw f (record { answer = ap (λ (x : BadLine). Err x) q; written = refl })

    -- what was read
    pub record Held (s : Settings) : Type 0 where
      pub ss : List Setting
      pub good : read_of (form_of from) text ≡ Good ss
      pub is : s ≡ settings_of ss

    pub held : (s : Settings) → Ok s ≡ found (read_of (form_of from) text) → Held s
    held s e = by (read_of (form_of from) text) refl e
      where
        by : (x : Found Setting) → read_of (form_of from) text ≡ x → Ok s ≡ found x → Held s
        by (Good ss) f e = let q : s ≡ settings_of ss = cc in record { ss = ss; good = f; is = q }
        by (Bad line n) f e = cc

    turned : (s : Settings) (t : List ℕ) (r : Result ℕ Refusal) (o' : List ℕ) → number_as to s ≡ 0 → text_as to s ≡ t → SavesAs to s o r o'
        → Moves (Text t) o (unblamed r) o'
    turned s t r o' z e w = record {
      answer = ap unblamed w.answer ∙ rw (z, e) (by (leb (length t) (length o)));
      written = w.written ∙ rw (z, e);
    }
      where
        by : (b : Bool) → unblamed (cond b (Ok (length t)) (Err (refusal_at 20)))
            ≡ cond b (Ok (length t)) (Err (record { line = 0; refusal = refusal_at 20 }))
        by true = refl
        by false = refl

    pub move-written : (h : Settings) (k : Held h) → Placed place k.ss → (s : Settings) → s ≡ recast_in to h → (r : Result ℕ Refusal) (o' : List ℕ)
        → SavesAs to s o r o' → Moves (move (form_of from) (form_of to) place text) o (unblamed r) o'
    unfolding move
    move-written h k p s ps r o' w =
        let good = (only-text from text k.ss k.good).1 in
        let kept = list_kept (form_of from) (form_of to) place keeps k.ss p.there 0 [] good p.is in
        let fill = replicate (64 - length k.ss) empty_entry in
        let entries : map (recast_entry to) (map entry_of k.ss ++ fill) ≡ map entry_of p.there ++ map (recast_entry to) fill =
        map-append (recast_entry to) (map entry_of k.ss) fill
        ∙ ap (λ (x : List Entry). x ++ map (recast_entry to) fill) (recast_list k.ss p.there 0 [] good p.is) in
        let made : s ≡ record { count = length p.there; entries = map entry_of p.there ++ map (recast_entry to) fill } =
        ps ∙ ap (recast_in to) k.is ∙ rw (entries, placed-length k.ss p.there p.is) in
        let z : number_as to s ≡ 0 = ap (number_as to) made ∙ settings_number to p.there (map (recast_entry to) fill) kept in
        let e : text_as to s ≡ text_of (form_of to) p.there = ap (text_as to) made
        ∙ ap (text_of (form_of to)) (settings_back to p.there (map (recast_entry to) fill) kept) in
        rw (k.good, p.is) (turned s (text_of (form_of to) p.there) r o' z e w)

-- what is moved lies in the architecture's word
small-below : (k arch : ℕ) → k ≤ 8 → arch < 16 ^ k → moved k arch % 2 ^ 32 ≡ moved k arch
small-below k arch h b =
    let p : 16 ^ k ≤ 16 ^ 8 = pow-le-pow_right (omega arith) h in
    omega (arith, moved_at_most k arch)

-- the two moves
pub each_raised : (s t : Setting) → (form_of One).formed s ≡ true → (form_of One).parameters s ≡ 0 → ◌≡◌ {A = Option Setting} (some (raised s)) (some t)
    → recast_entry Two (entry_of s) ≡ entry_of t
unfolding form_of parameters raised entry_of third_in architecture_in
each_raised (Cic name n m rate) t h e p =
    let q : Cic name n m (suc rate) ≡ t = cc in
    let r = (number_parts n m rate e).1 in
    rw (← q, lt-ltb rate 4294967295 (omega arith), add-one)
each_raised (Wdf name arch cs) t h e p =
    let q : Wdf name (moved (length cs) arch) cs ≡ t = cc in
    let w = wdf_small One (length cs) arch e in
    let a : arch % 2 ^ 32 ≡ arch = small arch (length cs) w.0 w.1 in
    let b = below (length cs) arch w.1 in
    let c : moved (length cs) arch % 2 ^ 32 ≡ moved (length cs) arch = small-below (length cs) arch w.0 b in
    rw (← q, a, c)
each_raised (Dither name f cs) t h e p = let q : Dither name f cs ≡ t = cc in rw (← q)

pub each_lowered : (s t : Setting) → (form_of Two).formed s ≡ true → (form_of Two).parameters s ≡ 0 → lowered s ≡ some t
    → recast_entry One (entry_of s) ≡ entry_of t
unfolding lowered entry_of third_in architecture_in
each_lowered (Cic name n m r) t h e p = let q : Cic name n m (r - 1) ≡ t = cc in rw (← q)
each_lowered (Wdf name arch cs) t h e p = let q : Wdf name arch cs ≡ t = cc in rw (← q)
each_lowered (Dither name f cs) t h e p = absurd (let z : ◌≡◌ {A = ℕ} 0 1 = cc in omega arith)

pub forth-placed : (ss : List Setting) → Placed (λ s. some (raised s)) ss
forth-placed ss = record { there = map raised ss; is = all_placed raised ss }

pub back-placed : (ss : List Setting) → any_dither ss ≡ false → Placed lowered ss
back-placed ss e = by (placed lowered ss) refl
  where
    by : (x : Option (List Setting)) → placed lowered ss ≡ x → Placed lowered ss
    by (some ts) f = record { there = ts; is = f }
    by none f = absurd (let z : true ≡ false = sym (dither_missing ss ∙ ap missing f) ∙ e in let y : ◌≡◌ {A = ℕ} 0 1 = cc in omega arith)

pub back_none : (text : List ℕ) (ss : List Setting) (o : List ℕ) → read_of (form_of Two) text ≡ Good ss → any_dither ss ≡ true → Moves (back text) o
    (Err (record { line = 0; refusal = Refusal.DitherPresent })) o
unfolding move refusal_at
back_none text ss o g e = rw g (by (placed lowered ss) refl)
  where
    by : (x : Option (List Setting)) → placed lowered ss ≡ x → Moves (placed_text (form_of Two) (form_of One) lowered (placed lowered ss)) o
        (Err (record { line = 0; refusal = Refusal.DitherPresent })) o
    by (some ts) f = absurd (let z : false ≡ true = sym (dither_missing ss ∙ ap missing f) ∙ e in let y : ◌≡◌ {A = ℕ} 0 1 = cc in omega arith)
    by none f = rw f (record { answer = refl; written = refl })

pub dither_read : (s : Settings) (ss : List Setting) → s ≡ settings_of ss → any_dither_in s.entries ≡ any_dither ss
dither_read s ss e = ap (λ (x : Settings). any_dither_in x.entries) e ∙ dither_entries ss (64 - length ss)
