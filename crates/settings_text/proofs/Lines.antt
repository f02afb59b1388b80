-- A record's line holds that record, and no other line does: so either form is lawful.
use native.Mathlib.Omega.{arith}
use native.Mathlib.Nat.{pow-suc, pow-succ', div-div-eq-div-mul}
use mathlib.Core.Path.{◌≡◌, refl, sym, ap, ◌∙◌}
use mathlib.Core.Bool.{Bool, true, false, cond, ◌&&◌}
use mathlib.Core.List.{List, [], ◌∷◌}
use mathlib.Core.Option.{Option, none, some}
use Prim.Native.Nat.{ℕ, zero, suc, ◌+◌, ◌*◌, ◌/◌, ◌^◌, ◌≤◌, ◌<◌}
use lib.Dec.{leb, ltb, eqb}
use lib.IntN.{ℤ, pos, negsuc, nat_abs}
use lib.ListN.{length, length-append}
use borrow.Author.Tests.{le-leb, eqb-true, eq-eqb, ltb-false, lt-ltb}
use Rattle.text.specs.Letters.{bytes}
use Rattle.text.specs.Numbers.{decimal_of}
use Rattle.text.specs.Parts.{parted, joined_by, count}
use Rattle.text.specs.Ranges.{Range, unsigned, signed, lies, all_lie, number_in, numbers_in, texts}
use Rattle.text.specs.Same.{same}
use Rattle.text.proofs.Joining.{Plain, none, more, parted-joined, joined-parted, count-joined}
use Rattle.text.proofs.Ranges.{two, number-again, number-only, number-plain, numbers-again, numbers-only, numbers-plain}
use Rattle.text.proofs.Ranges.{natural-text, natural-lies, text-short}
use Rattle.text.proofs.Sameness.{same_eq}
use Rattle.text.proofs.Spelling.{decimal_most}
use Rattle.wdf.specs.Calls.{sections_number, holds_retired}
use Rattle.wdf.specs.Calls as wdf
use Rattle.settings_text.specs.Fields.{is_name, nibbles_of, nibbles_in}
use Rattle.settings_text.specs.Laws.{Lawful}
use Rattle.settings_text.specs.Lines.{Setting, Cic, Wdf, Dither, fields_of, record_line, cic_by, cic_in, counts, wdf_of, wdf_by, wdf_in}
use Rattle.settings_text.specs.Lines.{dither_by, dither_in, kind_in, fields_in, record_in, record_name, formed, parameters, heading}
use Rattle.settings_text.specs.Lines.{wdf_number, form_of}
use Rattle.settings_text.specs.declared.version.Version.{Version}
use Rattle.settings_text.specs.declared.version.Version.TheVariants.{One, Two}
use Rattle.settings_text.proofs.Names.{name-short, name-plain}
use Rattle.settings_text.proofs.Nibbles.{nibbles_again, nibbles_only, nibbles_plain, nibbles_length, nibbles_bound}

-- how long a line is
abbrev weight : List (List ℕ) → ℕ
weight [] = 0
weight (f ∷ fs) = suc (length f) + weight fs

joined-short : (fs : List (List ℕ)) → length (joined_by 9 fs) ≤ weight fs
unfolding joined_by
joined-short [] = omega arith
joined-short (f ∷ []) = omega arith
joined-short (f ∷ g ∷ fs) = omega (arith, length-append f (9 ∷ joined_by 9 (g ∷ fs)), joined-short (g ∷ fs))

texts_weight : (r : Range) → r.least < 2 ^ 32 → r.most < 2 ^ 32 → (zs : List ℤ) → all_lie r zs ≡ true → weight (texts zs) ≤ 12 * length zs
texts_weight r l m [] h = omega arith
texts_weight r l m (z ∷ zs) h =
    let p = two (lies r z) (all_lie r zs) h in
    omega (arith, text-short r l m z p.0, texts_weight r l m zs p.1)

-- what a record's fields must do: no tab or newline, and not too long
record Fine (v : Version) (s : Setting) : Type 0 where
  pub plain_of : (sep : ℕ) → sep < 45 → Plain sep (fields_of s)
  pub short : weight (fields_of s) ≤ 160
  pub again : fields_in v (fields_of s) ≡ some s

yes_c : is_name (bytes "cic") ≡ true
unfolding is_name
yes_c = refl

yes_w : is_name (bytes "wdf") ≡ true
unfolding is_name
yes_w = refl

yes_d : is_name (bytes "dither") ≡ true
unfolding is_name
yes_d = refl

kind_cic : (v : Version) (name : List ℕ) (fs : List (List ℕ)) → kind_in v (bytes "cic") name fs ≡ cic_in name fs
unfolding kind_in same
kind_cic v name fs = refl

kind_wdf : (v : Version) (name : List ℕ) (fs : List (List ℕ)) → kind_in v (bytes "wdf") name fs ≡ wdf_in name fs
unfolding kind_in same
kind_wdf v name fs = refl

kind_dither : (v : Version) (name : List ℕ) (fs : List (List ℕ)) → kind_in v (bytes "dither") name fs ≡ dither_in v name fs
unfolding kind_in same
kind_dither v name fs = refl

cic_fine : (v : Version) (name : List ℕ) (n m r : ℕ) → formed v (Cic name n m r) ≡ true → Fine v (Cic name n m r)
unfolding formed fields_of cic_in
cic_fine v name n m r h =
    let a = two (is_name name) (all_lie unsigned (pos n ∷ pos m ∷ pos r ∷ [])) h in
    let g = numbers-again unsigned (omega arith) (omega arith) (pos n ∷ pos m ∷ pos r ∷ []) a.1 in
    record {
      plain_of = λ sep s. more (name-plain sep s (bytes "cic") yes_c)
          (more (name-plain sep s name a.0)
          (numbers-plain unsigned (omega arith) (omega arith) sep s (texts (pos n ∷ pos m ∷ pos r ∷ [])) (pos n ∷ pos m ∷ pos r ∷ []) g));
      short = omega (arith, texts_weight unsigned (omega arith) (omega arith) (pos n ∷ pos m ∷ pos r ∷ []) a.1, name-short name a.0);
      again = rw (a.0, kind_cic v name (texts (pos n ∷ pos m ∷ pos r ∷ [])), g);
    }

-- a filter that no number refuses
pub sections_fine : (v : Version) (k arch : ℕ) → wdf_number v k arch ≡ 0 → sections_number k arch ≡ 0
unfolding wdf.new_number
sections_fine One k arch h = h
sections_fine Two k arch h = by (sections_number k arch) (eqb (sections_number k arch) 0) refl h
  where
    by : (n : ℕ) (t : Bool) → eqb n 0 ≡ t → cond t (cond (holds_retired k arch) 53 0) n ≡ 0 → n ≡ 0
    by n true e g = eqb-true n 0 e
    by n false e g = g

pub wdf_small : (v : Version) (k arch : ℕ) → wdf_number v k arch ≡ 0 → (k ≤ 8) × (arch / 16 ^ k ≡ 0)
unfolding sections_number
wdf_small v k arch h = by (ltb 8 k) refl (eqb (arch / 16 ^ k) 0) refl (sections_fine v k arch h)
  where
    by : (t : Bool) → ltb 8 k ≡ t → (u : Bool) → eqb (arch / 16 ^ k) 0 ≡ u → cond {A = ℕ} t 50 (cond u 0 51) ≡ 0 → (k ≤ 8) ×
        (arch / 16 ^ k ≡ 0)
    by true e u f g = absurd (omega arith)
    by false e true f g = (ltb-false 8 k e, eqb-true (arch / 16 ^ k) 0 f)
    by false e false f g = absurd (omega arith)

pub below : (k arch : ℕ) → arch / 16 ^ k ≡ 0 → arch < 16 ^ k
below zero arch h = omega arith
below (suc k) arch h =
    let e : arch / 16 / 16 ^ k ≡ arch / 16 ^ suc k = rw (div-div-eq-div-mul arch 16 (16 ^ k), pow-succ' 16 k) in
    let l = below k (arch / 16) (e ∙ h) in
    let p = pow-suc 16 k in
    omega arith

wdf_fine : (v : Version) (name : List ℕ) (arch : ℕ) (cs : List ℤ) → formed v (Wdf name arch cs) ≡ true → wdf_number v (length cs) arch ≡ 0
    → Fine v (Wdf name arch cs)
unfolding formed fields_of wdf_in
wdf_fine v name arch cs h e =
    let a = two (is_name name) (all_lie signed cs) h in
    let b = wdf_small v (length cs) arch e in
    let l = below (length cs) arch b.1 in
    let few = b.0 in
    let g = numbers-again signed (omega arith) (omega arith) cs a.1 in
    let n = number-again unsigned (omega arith) (omega arith) (pos (length cs)) (le-leb (length cs) 4294967295 (omega arith)) in
    let d = decimal_most (length cs) (omega arith) in
    let x = nibbles_length (length cs) arch in
    record {
      plain_of = λ sep s. more (name-plain sep s (bytes "wdf") yes_w)
          (more (name-plain sep s name a.0)
          (more (number-plain unsigned (omega arith) (omega arith) sep s (decimal_of (length cs)) (pos (length cs)) n)
          (more (nibbles_plain sep s (length cs) arch l) (numbers-plain signed (omega arith) (omega arith) sep s (texts cs) cs g))));
      short = omega (arith, texts_weight signed (omega arith) (omega arith) cs a.1, name-short name a.0);
      again = rw (
        a.0,
        kind_wdf v name (decimal_of (length cs) ∷ nibbles_of (length cs) arch ∷ texts cs),
        g,
        n,
        eq-eqb (length cs)
            (length cs) refl,
        nibbles_again (length cs) arch l,
      );
    }

dither_fine : (name : List ℕ) (f : ℕ) (cs : List ℤ) → formed Two (Dither name f cs) ≡ true → Fine Two (Dither name f cs)
unfolding formed fields_of dither_in
dither_fine name f cs h =
    let a = two (is_name name) (all_lie unsigned (pos f ∷ []) && (eqb (length cs) 8 && all_lie signed cs)) h in
    let b = two (all_lie unsigned (pos f ∷ [])) (eqb (length cs) 8 && all_lie signed cs) a.1 in
    let c = two (eqb (length cs) 8) (all_lie signed cs) b.1 in
    let d = two (lies unsigned (pos f)) true b.0 in
    let k = eqb-true (length cs) 8 c.0 in
    let g = numbers-again signed (omega arith) (omega arith) cs c.1 in
    let n = number-again unsigned (omega arith) (omega arith) (pos f) d.0 in
    let w = text-short unsigned (omega arith) (omega arith) (pos f) d.0 in
    record {
      plain_of = λ sep s. more (name-plain sep s (bytes "dither") yes_d)
          (more (name-plain sep s name a.0)
          (more (number-plain unsigned (omega arith) (omega arith) sep s (decimal_of f) (pos f) n)
          (numbers-plain signed (omega arith) (omega arith) sep s (texts cs) cs g)));
      short = omega (arith, w, texts_weight signed (omega arith) (omega arith) cs c.1, name-short name a.0);
      again = rw (a.0, kind_dither Two name (decimal_of f ∷ texts cs), n, g, c.0);
    }

fine : (v : Version) (s : Setting) → formed v s ≡ true → parameters v s ≡ 0 → Fine v s
unfolding parameters formed
fine v (Cic name n m r) h e = cic_fine v name n m r h
fine v (Wdf name arch cs) h e = wdf_fine v name arch cs h e
fine One (Dither name f cs) h e = absurd (let z : ◌≡◌ {A = ℕ} 0 1 = cc in omega arith)
fine Two (Dither name f cs) h e = dither_fine name f cs h

-- two fields at least
record Two-at-least (fs : List (List ℕ)) : Type 0 where
  pub first : List ℕ
  pub rest : List (List ℕ)
  pub is : fs ≡ first ∷ rest

some_fields : (s : Setting) → Two-at-least (fields_of s)
unfolding fields_of
some_fields (Cic name n m r) = record { first = bytes "cic"; rest = name ∷ texts (pos n ∷ pos m ∷ pos r ∷ []); is = refl }
some_fields (Wdf name arch cs) = record {
  first = bytes "wdf";
  rest = name ∷ decimal_of (length cs) ∷ nibbles_of
      (length cs) arch ∷ texts cs;
  is = refl;
}
some_fields (Dither name f cs) = record { first = bytes "dither"; rest = name ∷ decimal_of f ∷ texts cs; is = refl }

parted-fields : (sep : ℕ) (fs : List (List ℕ)) → Two-at-least fs → Plain sep fs → parted sep (joined_by sep fs) ≡ fs
parted-fields sep fs t p =
    let q : Plain sep (t.first ∷ t.rest) = rw t.is at p in
    rw t.is (parted-joined sep t.first t.rest q)

line-again : (v : Version) (s : Setting) → Fine v s → record_in v (record_line s) ≡ some s
unfolding record_in record_line
line-again v s f =
    let l : length (joined_by 9 (fields_of s)) ≤ 160 = omega (arith, f.short, joined-short (fields_of s)) in
    rw (le-leb _ _ l, parted-fields 9 (fields_of s) (some_fields s) (f.plain_of 9 (omega arith))) f.again

line-one : (v : Version) (s : Setting) → Fine v s → count 10 (record_line s) ≡ 0
unfolding record_line
line-one v s f = let d : ◌≡◌ {A = ℕ} 10 9 → ⊥ = λ e. omega arith in count-joined 9 10 d (fields_of s) (f.plain_of 10 (omega arith))

-- no nibble beyond the last section
abbrev pub fitting : Setting → Bool
fitting (Cic name n m rate) = true
fitting (Wdf name arch cs) = ltb arch (16 ^ length cs)
fitting (Dither name f cs) = true

-- what a line holds, it is the line of
record Held (v : Version) (fs : List (List ℕ)) (s : Setting) : Type 0 where
  pub fields : fs ≡ fields_of s
  pub good : formed v s ≡ true
  pub fits : fitting s ≡ true

module _ (v : Version) (name : List ℕ) (named : is_name name ≡ true) (s : Setting) where
  cic_only : (fs : List (List ℕ)) → cic_in name fs ≡ some s → Held v (bytes "cic" ∷ name ∷ fs) s
  unfolding cic_in fields_of formed
  cic_only fs e = by (numbers_in unsigned fs) refl e
    where
      by : (o : Option (List ℤ)) → numbers_in unsigned fs ≡ o → cic_by name o ≡ some s → Held v (bytes "cic" ∷ name ∷ fs) s
      by none f g = absurd (let z : ◌≡◌ {A = ℕ} 0 1 = cc in omega arith)
      by (some []) f g = absurd (let z : ◌≡◌ {A = ℕ} 0 1 = cc in omega arith)
      by (some (n ∷ [])) f g = absurd (let z : ◌≡◌ {A = ℕ} 0 1 = cc in omega arith)
      by (some (n ∷ m ∷ [])) f g = absurd (let z : ◌≡◌ {A = ℕ} 0 1 = cc in omega arith)
      by (some (n ∷ m ∷ r ∷ z ∷ zs)) f g = absurd (let z : ◌≡◌ {A = ℕ} 0 1 = cc in omega arith)
      by (some (n ∷ m ∷ r ∷ [])) f g =
          let p : Cic name (nat_abs n) (nat_abs m) (nat_abs r) ≡ s = cc in
          let q = numbers-only unsigned (omega arith) (omega arith) fs (n ∷ m ∷ r ∷ []) f in
          let a = two (lies unsigned n) (all_lie unsigned (m ∷ r ∷ [])) q.1 in
          let b = two (lies unsigned m) (all_lie unsigned (r ∷ [])) a.1 in
          let c = two (lies unsigned r) true b.1 in
          rw (← p) (record {
            fields = rw (q.0, natural-text n a.0, natural-text m b.0, natural-text r c.0);
            good = rw (named, natural-lies n a.0, natural-lies m b.0, natural-lies r c.0);
            fits = refl;
          })

  counts-text : (f : List ℕ) (k : ℕ) → counts k (number_in unsigned f) ≡ true → f ≡ decimal_of k
  counts-text f k h = by (number_in unsigned f) refl h
    where
      by : (o : Option ℤ) → number_in unsigned f ≡ o → counts k o ≡ true → f ≡ decimal_of k
      by none e g = absurd (let z : ◌≡◌ {A = ℕ} 0 1 = cc in omega arith)
      by (some (pos n)) e g = (number-only unsigned (omega arith) (omega arith) f (pos n) e).0 ∙ ap decimal_of (eqb-true n k g)
      by (some (negsuc n)) e g = absurd (let z : ◌≡◌ {A = ℕ} 0 1 = cc in omega arith)

  wdf_only : (fs : List (List ℕ)) → wdf_in name fs ≡ some s → Held v (bytes "wdf" ∷ name ∷ fs) s
  unfolding wdf_in fields_of formed
  wdf_only [] e = absurd (let z : ◌≡◌ {A = ℕ} 0 1 = cc in omega arith)
  wdf_only (k ∷ []) e = absurd (let z : ◌≡◌ {A = ℕ} 0 1 = cc in omega arith)
  wdf_only (k ∷ nibbles ∷ fs) e = by (numbers_in signed fs) refl e
    where
      held : (cs : List ℤ) → numbers_in signed fs ≡ some cs → (t : Bool) → counts (length cs) (number_in unsigned k) ≡ t →
          (o : Option ℕ) → nibbles_in (length cs) nibbles ≡ o → cond t (wdf_of name cs o) none ≡ some s
          → Held v (bytes "wdf" ∷ name ∷ k ∷ nibbles ∷ fs) s
      held cs f true g (some arch) h i =
          let p : Wdf name arch cs ≡ s = cc in
          let q = numbers-only signed (omega arith) (omega arith) fs cs f in
          rw (← p) (record {
            fields = rw (counts-text k (length cs) g, nibbles_only (length cs) nibbles arch h, q.0);
            good = rw (named, q.1);
            fits = lt-ltb arch (16 ^ length cs) (nibbles_bound (length cs) nibbles arch h);
          })
      held cs f true g none h i = absurd (let z : ◌≡◌ {A = ℕ} 0 1 = cc in omega arith)
      held cs f false g o h i = absurd (let z : ◌≡◌ {A = ℕ} 0 1 = cc in omega arith)

      by : (o : Option (List ℤ)) → numbers_in signed fs ≡ o → wdf_by name k nibbles o ≡ some s → Held v
          (bytes "wdf" ∷ name ∷ k ∷ nibbles ∷ fs) s
      by none f g = absurd (let z : ◌≡◌ {A = ℕ} 0 1 = cc in omega arith)
      by (some cs) f g = held cs f (counts (length cs) (number_in unsigned k)) refl (nibbles_in (length cs) nibbles) refl g

dither_only : (v : Version) (name : List ℕ) → is_name name ≡ true → (s : Setting) (fs : List (List ℕ)) → dither_in v name fs ≡ some s
    → Held v (bytes "dither" ∷ name ∷ fs) s
unfolding dither_in fields_of formed
dither_only One name named s fs e = absurd (let z : ◌≡◌ {A = ℕ} 0 1 = cc in omega arith)
dither_only Two name named s [] e = absurd (let z : ◌≡◌ {A = ℕ} 0 1 = cc in omega arith)
dither_only Two name named s (k ∷ fs) e = by (number_in unsigned k) refl (numbers_in signed fs) refl e
  where
    held : (f : ℤ) → number_in unsigned k ≡ some f → (cs : List ℤ) → numbers_in signed fs ≡ some cs → (t : Bool) → eqb (length cs) 8 ≡ t
        → cond t (some (Dither name (nat_abs f) cs)) none ≡ some s → Held Two (bytes "dither" ∷ name ∷ k ∷ fs) s
    held f i cs j true g h =
        let p : Dither name (nat_abs f) cs ≡ s = cc in
        let q = numbers-only signed (omega arith) (omega arith) fs cs j in
        let o = number-only unsigned (omega arith) (omega arith) k f i in
        rw (← p) (record {
          fields = rw (o.0, natural-text f o.1, q.0);
          good = rw (named, natural-lies f o.1, g, q.1);
          fits = refl;
        })
    held f i cs j false g h = absurd (let z : ◌≡◌ {A = ℕ} 0 1 = cc in omega arith)

    by : (n : Option ℤ) → number_in unsigned k ≡ n → (o : Option (List ℤ)) → numbers_in signed fs ≡ o → dither_by name n o ≡ some s
        → Held Two (bytes "dither" ∷ name ∷ k ∷ fs) s
    by none i o j h = absurd (let z : ◌≡◌ {A = ℕ} 0 1 = cc in omega arith)
    by (some f) i none j h = absurd (let z : ◌≡◌ {A = ℕ} 0 1 = cc in omega arith)
    by (some f) i (some cs) j h = held f i cs j (eqb (length cs) 8) refl h

fields-only : (v : Version) (ps : List (List ℕ)) (s : Setting) → fields_in v ps ≡ some s → Held v ps s
unfolding kind_in
fields-only v [] s e = absurd (let z : ◌≡◌ {A = ℕ} 0 1 = cc in omega arith)
fields-only v (kind ∷ []) s e = absurd (let z : ◌≡◌ {A = ℕ} 0 1 = cc in omega arith)
fields-only v (kind ∷ name ∷ fs) s e =
    by (is_name name) refl (same kind (bytes "cic")) refl (same kind (bytes "wdf")) refl (same kind (bytes "dither")) refl e
  where
    known : (word : List ℕ) → same kind word ≡ true → Held v (word ∷ name ∷ fs) s → Held v (kind ∷ name ∷ fs) s
    known word h held = rw (same_eq _ _ h) held

    by : (t : Bool) → is_name name ≡ t → (a : Bool) → same kind (bytes "cic") ≡ a → (b : Bool) → same kind (bytes "wdf") ≡ b
        → (c : Bool) → same kind (bytes "dither") ≡ c
        → cond t (cond a (cic_in name fs) (cond b (wdf_in name fs) (cond c (dither_in v name fs) none))) none ≡ some s → Held v (kind ∷ name ∷ fs) s
    by true n true f b g c i k = known (bytes "cic") f (cic_only v name n s fs k)
    by true n false f true g c i k = known (bytes "wdf") g (wdf_only v name n s fs k)
    by true n false f false g true i k = known (bytes "dither") i (dither_only v name n s fs k)
    by true n false f false g false i k = absurd (let z : ◌≡◌ {A = ℕ} 0 1 = cc in omega arith)
    by false n a f b g c i k = absurd (let z : ◌≡◌ {A = ℕ} 0 1 = cc in omega arith)

pub line-only : (v : Version) (l : List ℕ) (s : Setting) → record_in v l ≡ some s → (l ≡ record_line s) × (formed v s ≡ true)
unfolding record_in record_line
line-only v l s e = by (leb (length l) 160) e
  where
    by : (t : Bool) → cond t (fields_in v (parted 9 l)) none ≡ some s → (l ≡ record_line s) × (formed v s ≡ true)
    by true k = let h = fields-only v (parted 9 l) s k in (sym (joined-parted 9 l) ∙ ap (joined_by 9) h.fields, h.good)
    by false k = absurd (let z : ◌≡◌ {A = ℕ} 0 1 = cc in omega arith)

pub line-fits : (v : Version) (l : List ℕ) (s : Setting) → record_in v l ≡ some s → fitting s ≡ true
unfolding record_in
line-fits v l s e = by (leb (length l) 160) e
  where
    by : (t : Bool) → cond t (fields_in v (parted 9 l)) none ≡ some s → fitting s ≡ true
    by true k = (fields-only v (parted 9 l) s k).fits
    by false k = absurd (let z : ◌≡◌ {A = ℕ} 0 1 = cc in omega arith)

formed_named : (v : Version) (s : Setting) → formed v s ≡ true → is_name (record_name s) ≡ true
unfolding formed
formed_named v (Cic name n m rate) h = (two (is_name name) (all_lie unsigned (pos n ∷ pos m ∷ pos rate ∷ [])) h).0
formed_named v (Wdf name arch cs) h = (two (is_name name) (all_lie signed cs) h).0
formed_named One (Dither name f cs) h = absurd (let z : ◌≡◌ {A = ℕ} 0 1 = cc in omega arith)
formed_named Two (Dither name f cs) h =
    (two (is_name name) (all_lie unsigned (pos f ∷ []) && (eqb (length cs) 8 && all_lie signed cs)) h).0

pub line_named : (v : Version) (l : List ℕ) (s : Setting) → record_in v l ≡ some s → length (record_name s) ≤ 16
line_named v l s e = name-short (record_name s) (formed_named v s (line-only v l s e).1)

heading-one : (v : Version) → count 10 (heading v) ≡ 0
unfolding count
heading-one One = refl
heading-one Two = refl

pub lawful : (v : Version) → Lawful (form_of v)
unfolding form_of
lawful v = record {
  again = λ s h e. line-again v s (fine v s h e);
  only = line-only v;
  one_line = λ s h e. line-one v s (fine v s h e);
  one_heading = heading-one v;
}
