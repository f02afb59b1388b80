-- A list judged record by record: what is left to judge, and the lines so far.
use native.Mathlib.Omega.{arith}
use native.Mathlib.Numerals.{add-one}
use mathlib.Core.Path.{◌≡◌, refl, sym, ap, ◌∙◌}
use mathlib.Core.Bool.{Bool, true, false, cond, ◌&&◌}
use mathlib.Core.List.{List, [], ◌∷◌, ◌++◌, map, map-append, append-nil, append_assoc}
use Prim.Native.Nat.{ℕ, zero, suc, ◌+◌, ◌-◌, ◌*◌, ◌≤◌, ◌<◌, ◌^◌}
use lib.Dec.{leb}
use lib.IntN.{ℤ, pos, negsuc}
use lib.ListN.{length, take, drop, get_or, replicate, length-append, length-replicate, drop_of_length-le, length-take}
use lib.Seq.{drop-cons, get_or-take, take-suc}
use mir.Syntax.{w32}
use mir.Val.{SFits}
use borrow.Author.Tests.{le-leb, lt-leb, leb-true, leb-false}
use Rattle.std.specs.Prelude.{Result, Ok, Err, OnOk}
use Rattle.blocks.specs.declared.refusal.Refusal.{Refusal}
use Rattle.blocks.specs.Refusals.{answer}
use Rattle.blocks.proofs.Refusals.{taken_number}
use Rattle.words.proofs.Reading.{wrap-fits}
use Rattle.words.specs.Words.{wrap}
use Rattle.text.specs.Parts.{joined_by}
use Rattle.text.specs.Ranges.{all_lie, lies, signed, unsigned}
use Rattle.text.proofs.Putting.{nothing, then, wrote-same}
use Rattle.settings_text.specs.Fields.{is_name}
use Rattle.settings_text.specs.Lines.{Setting, form_of, formed, heading, record_line, record_name, parameters}
use Rattle.settings_text.specs.Stores.{parts_of, list_from, list_number, or_else, record_number, text_of, listed_number}
use Rattle.settings_text.specs.declared.version.Version.{Version}
use Rattle.settings_text.specs.declared.version.Version.TheVariants.{One, Two}
use Rattle.settings_text.proofs.Lines.{wdf_small}
use Rattle.settings_text.proofs.Names.{long-name}
use Rattle.settings_text.proofs.Stores.{write_zero, no_parameter}
use Rattle.entries.specs.Entries.{kind_number, name_bytes, number_for, setting_by, entry_setting, records_in, number_as, whole_name}
use Rattle.store_write.specs.Writing.{Ended, allowed_in, sections}
use Rattle.entries.specs.declared.settings.Entry.{Entry}
use Rattle.entries.specs.declared.settings.Kind.TheVariants as kinds
use Rattle.entries.specs.declared.settings.Kind.{Kind}
use Rattle.entries.specs.declared.settings.Name.{Name}
use Rattle.entries.proofs.Arrays.{whole-name, wrapped_length}

-- words are i32
word-lies : (z : ℤ) → SFits w32 z → lies signed z ≡ true
word-lies (pos v) f = le-leb v 2147483647 (omega (arith, f.sfits))
word-lies (negsuc v) f = le-leb (suc v) 2147483648 (omega (arith, f.sfits))

zeros_lie : (n : ℕ) → all_lie signed (replicate n (pos 0)) ≡ true
zeros_lie zero = refl
zeros_lie (suc n) = zeros_lie n

words_lie : (k n : ℕ) (a : List ℤ) → all_lie signed (take k (map (wrap w32) a) ++ replicate n (pos 0)) ≡ true
words_lie zero n a = zeros_lie n
words_lie (suc k) n [] = zeros_lie n
words_lie (suc k) n (z ∷ a) = rw (word-lies (wrap w32 z) (wrap-fits w32 z)) (words_lie k n a)

all_lie_law : (a : List ℤ) → all_lie signed (map (wrap w32) a) ≡ true
all_lie_law [] = refl
all_lie_law (z ∷ a) = rw (word-lies (wrap w32 z) (wrap-fits w32 z)) (all_lie_law a)

and_false : (b : Bool) → (b && false) ≡ false
and_false true = refl
and_false false = refl

and_true : (b : Bool) → (b && true) ≡ b
and_true true = refl
and_true false = refl

formed_is : (v : Version) (name : List ℕ) (kind : Kind) (a : List ℤ) → length a ≡ 8 → formed v (setting_by name kind (map (wrap w32) a)) ≡
    (is_name name && allowed_in v kind)
unfolding formed setting_by
formed_is v name (kinds.Cic n m rate) a l = refl
formed_is One name (kinds.Dither f) a l = sym (and_false (is_name name))
formed_is Two name (kinds.Dither f) a l = rw (wrapped_length a, l, all_lie_law a) (ap (λ (b : Bool). is_name name && b) (and_true (all_lie unsigned (pos f ∷ []))))
formed_is v name (kinds.Wdf k arch) a l = ap (λ (b : Bool). is_name name && b) (words_lie k (k - 8) a)

name_is : (name : List ℕ) (kind : Kind) (a : List ℤ) → record_name (setting_by name kind a) ≡ name
unfolding setting_by
name_is name (kinds.Cic n m rate) a = refl
name_is name (kinds.Wdf k arch) a = refl
name_is name (kinds.Dither f) a = refl

number_is : (v : Version) (name : List ℕ) (kind : Kind) (a : List ℤ) → length a ≡ 8 → parameters v (setting_by name kind a) ≡ kind_number v kind a
unfolding parameters setting_by
number_is v name (kinds.Cic n m rate) a l = refl
number_is v name (kinds.Dither f) a l = refl
number_is v name (kinds.Wdf k arch) a l =
    let c = length-append (take k a) (replicate (k - 8) (pos 0)) in
    let d = length-take k a in
    let e = length-replicate {A = ℤ} (k - 8) (pos 0) in
    let n : length (take k a ++ replicate (k - 8) (pos 0)) ≡ k = omega arith in
    rw n

module _ (v : Version) where
  module _ (k : ℕ) (last : List ℕ) (e : Entry) (l : length e.a ≡ 8) (b : length e.name.bytes ≡ 16) where
    refused_81 : (is_name (whole_name e.name) && allowed_in v e.kind) ≡ false → 81 ≡ listed_number (form_of v) k last (entry_setting e)
    unfolding listed_number form_of
    refused_81 h = sym (rw (formed_is v (whole_name e.name) e.kind e.a l, h))

    pub name-long : 16 < e.name.len → 81 ≡ listed_number (form_of v) k last (entry_setting e)
    name-long h =
        let c = length-append (name_bytes e.name) (replicate (e.name.len - 16) 0) in
        let d = length-take e.name.len e.name.bytes in
        let f = length-replicate {A = ℕ} (e.name.len - 16) 0 in
        let n = long-name (whole_name e.name) (omega arith) (omega arith) in
        refused_81 (rw (← n))

    module _ (s : e.name.len ≤ 16) where
      pub name_wrong : is_name (name_bytes e.name) ≡ false → 81 ≡ listed_number (form_of v) k last (entry_setting e)
      name_wrong h = refused_81 (rw (whole-name e.name s, h))

      module _ (n : is_name (name_bytes e.name) ≡ true) where
        pub kind_wrong : allowed_in v e.kind ≡ false → 81 ≡ listed_number (form_of v) k last (entry_setting e)
        kind_wrong h = refused_81 (rw (whole-name e.name s, n, h))

        pub kind_right : (r : ℕ) → allowed_in v e.kind ≡ true → r ≡ number_for v k last (name_bytes e.name) e.kind (map (wrap w32) e.a) → r
            ≡ listed_number (form_of v) k last (entry_setting e)
        unfolding listed_number record_number number_for form_of
        kind_right r h q =
            let m : length (map (wrap w32) e.a) ≡ 8 = wrapped_length e.a ∙ l in
            q ∙ sym (rw (
              formed_is v (whole_name e.name) e.kind e.a l,
              whole-name e.name s,
              n,
              h,
              name_is
                  (name_bytes e.name) e.kind (map (wrap w32) e.a),
              number_is v (name_bytes e.name) e.kind (map (wrap w32) e.a) m,
            ))

  -- numbers of u32 are
  pub allowed_cic : (kind : Kind) (n m r : ℕ) → kind ≡ kinds.Cic n m r → n < 2 ^ 32 → m < 2 ^ 32 → r < 2 ^ 32 → true ≡ allowed_in v kind
  allowed_cic kind n m r e a b c =
      sym (rw (e, le-leb n 4294967295 (omega arith), le-leb m 4294967295 (omega arith), le-leb r 4294967295 (omega arith)))

  pub allowed_dither : (kind : Kind) (f : ℕ) → v ≡ Two → kind ≡ kinds.Dither f → f < 2 ^ 32 → true ≡ allowed_in v kind
  allowed_dither kind f t e a = sym (rw (t, e, le-leb f 4294967295 (omega arith)))

  -- what is left to judge
  pub record Judging (entries : List Entry) (count : ℕ) (last : Name) (i : ℕ) : Type 0 where
    pub few : i ≤ count
    pub room : i ≤ 64
    pub rest : list_number (form_of v) (records_in (record { count = count; entries = entries })) ≡ list_from (form_of v) i (name_bytes last)
        (map entry_setting (drop i (take count entries)))

  pub judging_none : (entries : List Entry) (count : ℕ) (last : Name) → name_bytes last ≡ [] → Judging entries count last 0
  judging_none entries count last e = record { few = omega arith; room = omega arith; rest = rw e }

  module _ (entries : List Entry) (count : ℕ) (last : Name) (i : ℕ) (l : length entries ≡ 64) (j : Judging entries count last i) where
    pub judged_all : count ≤ i → 0 ≡ number_as v (record { count = count; entries = entries })
    unfolding number_as list_from
    judged_all h =
        let d = length-take count entries in
        let q : length (take count entries) ≤ i = omega arith in
        let r = j.room in
        sym (rw (j.rest, drop_of_length-le (take count entries) q, le-leb count 64 (omega arith)))

    pub judged_many : i < count → 64 ≤ i → 83 ≡ number_as v (record { count = count; entries = entries })
    unfolding number_as list_from
    judged_many h g =
        let d = length-take count entries in
        let q : length (take count entries) ≤ i = omega arith in
        sym (rw (j.rest, drop_of_length-le (take count entries) q, lt-leb count 64 (omega arith)))

    module _ (h : i < count) (g : i < 64) (e d : Entry) (pe : e ≡ get_or entries i d) where
      here : drop i (take count entries) ≡ e ∷ drop (i + 1) (take count entries)
      here =
          let t = length-take count entries in
          drop-cons (take count entries) i d (omega arith) ∙ rw (get_or-take count entries i d h, pe, add-one i)

      left : list_number (form_of v) (records_in (record { count = count; entries = entries })) ≡ or_else
          (listed_number (form_of v) i (name_bytes last) (entry_setting e))
          (list_from (form_of v) (suc i) ((form_of v).record_name (entry_setting e)) (map entry_setting (drop (i + 1) (take count entries))))
      unfolding list_from
      left = j.rest ∙ rw here

      pub judged_bad : (n : ℕ) → n ≡ listed_number (form_of v) i (name_bytes last) (entry_setting e) → (n ≡ 0 → ⊥) → n ≡ number_as v
          (record { count = count; entries = entries })
      unfolding number_as
      judged_bad n q x = sym (rw left (by n q x))
        where
          by : (n : ℕ) → n ≡ listed_number (form_of v) i (name_bytes last) (entry_setting e) → (n ≡ 0 → ⊥)
              → or_else (or_else (listed_number (form_of v) i (name_bytes last) (entry_setting e))
              (list_from (form_of v) (suc i) ((form_of v).record_name (entry_setting e)) (map entry_setting (drop (i + 1) (take count entries)))))
              (cond (leb count 64) 0 83) ≡ n
          by zero q d = absurd (d refl)
          by (suc n) q d = rw (← q)

      pub judged_on : (n : ℕ) → n ≡ listed_number (form_of v) i (name_bytes last) (entry_setting e) → n ≡ 0 → e.name.len ≤ 16
          → Judging entries count e.name (i + 1)
      unfolding form_of
      judged_on n q z s =
          let w : listed_number (form_of v) i (name_bytes last) (entry_setting e) ≡ 0 = sym q ∙ z in
          let m : (form_of v).record_name (entry_setting e) ≡ name_bytes e.name = name_is (whole_name e.name) e.kind (map (wrap w32) e.a)
          ∙ whole-name e.name s in
          record { few = omega arith; room = omega arith; rest = left ∙ rw (w, add-one i, m) }

-- what is not refused has at most 16 letters and 8 sections
module _ (v : Version) (k : ℕ) (last : List ℕ) (e : Entry) (l : length e.a ≡ 8) (b : length e.name.bytes ≡ 16)
    (z : listed_number (form_of v) k last (entry_setting e) ≡ 0) where
  pub few_letters : e.name.len ≤ 16
  few_letters = by (leb e.name.len 16) refl
    where
      by : (t : Bool) → leb e.name.len 16 ≡ t → e.name.len ≤ 16
      by true f = leb-true e.name.len 16 f
      by false f = absurd (let q = name-long v k last e l b (leb-false e.name.len 16 f) in omega arith)

  small : (kind : Kind) → kind_number v kind (map (wrap w32) e.a) ≡ 0 → sections kind ≤ 8
  small (kinds.Cic n m r) e = omega arith
  small (kinds.Dither f) e = omega arith
  small (kinds.Wdf k arch) e = (wdf_small v k arch e).0

  pub few-sections : sections e.kind ≤ 8
  unfolding form_of
  few-sections =
      let m : length (map (wrap w32) e.a) ≡ 8 = wrapped_length e.a ∙ l in
      let w = write_zero (form_of v) k last (entry_setting e) z in
      let p = no_parameter (form_of v) k last (entry_setting e) w.1 in
      small e.kind (sym (number_is v (whole_name e.name) e.kind (map (wrap w32) e.a) m) ∙ p)

-- what is refused has a number
pub nonzero : {A : Type 0} (k : ℕ) (v : A) (r : Refusal) → ◌≡◌ {A = Result A Refusal} (Err r) (answer k v) → k ≡ 0 → ⊥
unfolding answer
nonzero zero v r e z = cc
nonzero (suc k) v r e z = absurd (omega arith)

pub room_law : (r : Result (Unit {0}) Refusal) (k : ℕ) (P : Type 0) → r ≡ answer k tt → (k ≡ 0 → P) → OnOk r P
room_law (Ok u) k P e h = h (taken_number k tt u e)
room_law (Err x) k P e h = tt

-- a text is its first line and its records' lines
abbrev pub lines : List Setting → List ℕ
lines [] = []
lines (s ∷ ss) = (record_line s ++ (10 ∷ [])) ++ lines ss

lines_snoc : (ss : List Setting) (s : Setting) → lines (ss ++ (s ∷ [])) ≡ lines ss ++ (record_line s ++ (10 ∷ []))
lines_snoc [] s = append-nil (record_line s ++ (10 ∷ []))
lines_snoc (t ∷ ss) s = ap (λ (l : List ℕ). (record_line t ++ (10 ∷ [])) ++ l) (lines_snoc ss s) ∙ sym
    (append_assoc (record_line t ++ (10 ∷ [])) (lines ss) (record_line s ++ (10 ∷ [])))

text-joined : (v : Version) (f : List ℕ) (ss : List Setting) → joined_by 10 (f ∷ parts_of (form_of v) ss) ≡ (f ++ (10 ∷ [])) ++ lines ss
unfolding joined_by form_of
text-joined v f [] = sym (append-nil (f ++ (10 ∷ [])))
text-joined v f (s ∷ ss) = ap (λ (l : List ℕ). f ++ (10 ∷ l)) (text-joined v (record_line s) ss) ∙ sym
    (append_assoc f (10 ∷ []) ((record_line s ++ (10 ∷ [])) ++ lines ss))

text_is : (v : Version) (ss : List Setting) → text_of (form_of v) ss ≡ (heading v ++ (10 ∷ [])) ++ lines ss
unfolding text_of form_of
text_is v ss = text-joined v (heading v) ss

-- the lines so far
abbrev pub lines_to : List Entry → ℕ → List ℕ
lines_to entries i = lines (map entry_setting (take i entries))

pub lines_none : (entries : List Entry) (o : List ℕ) (at : ℕ) → Ended o at (lines_to entries 0) (141 * 0) at o
lines_none entries o at = record { wrote = nothing o at; high = omega arith; long = refl }

pub lines_on : (entries : List Entry) (o : List ℕ) (at i : ℕ) (r : ℕ) (o₁ : List ℕ) (q : ℕ) (o₂ : List ℕ) (e d : Entry)
    → at ≤ length o → e ≡ get_or entries i d → i < length entries
    → Ended o at (lines_to entries i) (141 * i) r o₁ → Ended o₁ r (record_line (entry_setting e) ++ (10 ∷ [])) 141 q o₂ → Ended o at
    (lines_to entries (i + 1)) (141 * (i + 1)) q o₂
lines_on entries o at i r o₁ q o₂ e d room pe h a b =
    let t : map entry_setting (take (i + 1) entries) ≡ map entry_setting (take i entries) ++ (entry_setting e ∷ []) =
    rw (pe, add-one i) (ap (map entry_setting) (take-suc entries i d h) ∙ map-append entry_setting (take i entries) (get_or entries i d ∷ [])) in
    let x : lines_to entries (i + 1) ≡ lines_to entries i ++ (record_line (entry_setting e) ++ (10 ∷ [])) = ap lines t ∙ lines_snoc
    (map entry_setting (take i entries)) (entry_setting e) in
    let ah = a.high in
    let bh = b.high in
    record { wrote = wrote-same (sym x) (then room a.wrote b.wrote); high = omega arith; long = b.long ∙ a.long }

pub lines_all : (v : Version) (entries : List Entry) (count i : ℕ) (o : List ℕ) (r : ℕ) (o₁ : List ℕ) (q : ℕ) (o₂ : List ℕ) → i ≡ count → i ≤ 64
    → Ended o 0 (heading v ++ (10 ∷ [])) 6 r o₁ → Ended o₁ r (lines_to entries i) (141 * i) q o₂ → Ended o 0
    (text_of (form_of v) (records_in (record { count = count; entries = entries }))) 9030 q o₂
lines_all v entries count i o r o₁ q o₂ e s a b =
    let ah = a.high in
    let bh = b.high in
    let w = then (omega arith) a.wrote b.wrote in
    let x : (heading v ++ (10 ∷ [])) ++ lines_to entries i ≡ text_of (form_of v)
    (records_in (record { count = count; entries = entries })) = rw e
    (sym (text_is v (records_in (record { count = count; entries = entries })))) in
    record { wrote = wrote-same x w; high = omega arith; long = b.long ∙ a.long }
