-- A record that is moved keeps its name and can be written: so a moved list can be written, and is read back as it was moved.
-- That holds of any two lawful forms; what the two forms add stands at the end.
use native.Mathlib.Omega.{arith}
use mathlib.Core.Path.{◌≡◌, refl, sym, ap, ◌∙◌}
use mathlib.Core.Bool.{Bool, true, false, cond, ◌&&◌, ◌||◌, true≢false}
use mathlib.Core.List.{List, [], ◌∷◌, map}
use mathlib.Core.Option.{Option, none, some}
use Prim.Native.Nat.{ℕ, suc, ◌-◌, ◌*◌, ◌≤◌}
use lib.Dec.{leb, ltb, eqb}
use lib.IntN.{pos}
use lib.ListN.{length}
use borrow.Author.Tests.{le-leb, leb-true, le-ltb, ltb-false}
use Rattle.sums.specs.Calls.{new_number}
use Rattle.sums.specs.State.{refusal_of}
use Rattle.text.specs.Order.{precedes}
use Rattle.text.specs.Parts.{parted}
use Rattle.text.specs.Ranges.{unsigned, lies, all_lie, both}
use Rattle.text.specs.Same.{same}
use Rattle.text.proofs.Ranges.{two, both_some}
use Rattle.text.proofs.Sameness.{same_eq}
use Rattle.wdf.specs.Calls.{sections_number}
use Rattle.wdf.specs.Calls as wdf
use Rattle.wdf.specs.Retired.{moved}
use Rattle.wdf.proofs.Retired.{moved-number, moved_none, moved_same}
use Rattle.settings_text.specs.Fields.{is_name}
use Rattle.settings_text.specs.Laws.{Lawful}
use Rattle.settings_text.specs.Lines.{Setting, Cic, Wdf, Dither, formed, cic_number, wdf_number, parameters, form_of, form1, form2}
use Rattle.settings_text.specs.Moves.{Text, Refused, placed, placed_text, move, raised, lowered}
use Rattle.settings_text.specs.Moves.{any_dither, refused_with, renewed, is_retired, any_retired}
use Rattle.settings_text.specs.Moves.{ForthAndBack, OnlyRetired, BackRefused, OtherFormRefused}
use Rattle.settings_text.specs.Stores.{Form, Found, Good, Bad, record_number, listed_number, list_from, list_number}
use Rattle.settings_text.specs.Stores.{text_of, lines_in, opened_by, read_of}
use Rattle.settings_text.specs.declared.version.Version.TheVariants.{One, Two}
use Rattle.settings_text.proofs.Lines.{lawful, sections_fine}
use Rattle.settings_text.proofs.Stores.{read_back, one-text, both_zero, write_zero, no_parameter}

-- a record in its place in the other form
pub record Kept {A B : Type 0} (from : Form A) (to : Form B) (s : A) (t : B) : Type 0 where
  pub name : to.record_name t ≡ from.record_name s
  pub formed : to.formed t ≡ true
  pub parameters : to.parameters t ≡ 0

abbrev pub Keeps : {A B : Type 0} → Form A → Form B → (A → Option B) → Type 0
Keeps {A} {B} from to place =
    (s : A) (t : B) → from.formed s ≡ true → from.parameters s ≡ 0 → place s ≡ some t → Kept from to s t

module _ {A B : Type 0} (from : Form A) (to : Form B) (place : A → Option B) (keeps : Keeps from to place) where
  number-kept : (k : ℕ) (last : List ℕ) (s : A) (t : B) → Kept from to s t → record_number from k last s ≡ 0 → record_number to k last t ≡ 0
  unfolding record_number
  number-kept k last s t kept e = by (leb 64 k) refl (precedes last (from.record_name s)) refl e
    where
      by : (u : Bool) → leb 64 k ≡ u → (v : Bool) → precedes last (from.record_name s) ≡ v → cond u 83 (cond v (from.parameters s) 82) ≡ 0
          → cond (leb 64 k) 83 (cond (precedes last (to.record_name t)) (to.parameters t) 82) ≡ 0
      by true f v g h = absurd (omega arith)
      by false f false g h = absurd (omega arith)
      by false f true g h = rw (f, kept.name, g) kept.parameters

  pub list_kept : (ss : List A) (ts : List B) (k : ℕ) (last : List ℕ) → list_from from k last ss ≡ 0 → placed place ss ≡ some ts
      → list_from to k last ts ≡ 0
  unfolding list_from listed_number
  list_kept [] ts k last e p = let q : [] ≡ ts = cc in rw (← q)
  list_kept (s ∷ ss) ts k last e p =
      let z = both_zero from (listed_number from k last s) (list_from from (suc k) (from.record_name s) ss) e in
      let w = write_zero from k last s z.0 in
      let b = both_some {A = B} {B = List B} {C = List B} (λ t ts. t ∷ ts) (place s) (placed place ss) ts p in
      let kept = keeps s b.first w.0 (no_parameter from k last s w.1) b.here in
      let q : b.first ∷ b.second ≡ ts = b.is in
      rw (← q, kept.formed, number-kept k last s b.first kept w.1, kept.name)
      (list_kept ss b.second (suc k) (from.record_name s) z.1 b.there)

  -- what is moved can be read in the other form
  pub moved-reads : Lawful from → Lawful to → (text : List ℕ) (ss : List A) (ts : List B) → read_of from text ≡ Good ss
      → placed place ss ≡ some ts → read_of to (text_of to ts) ≡ Good ts
  moved-reads l1 l2 text ss ts e p = read_back to l2 ts (list_kept ss ts 0 [] (one-text from l1 text ss e).1 p)

  module _ (return : B → Option A) (tidy : A → A)
      (again : (s : A) (t : B) → from.formed s ≡ true → place s ≡ some t → return t ≡ some (tidy s)) where
    placed-again : (ss : List A) (ts : List B) (k : ℕ) (last : List ℕ) → list_from from k last ss ≡ 0 → placed place ss ≡ some ts
        → placed return ts ≡ some (map tidy ss)
    unfolding list_from
    placed-again [] ts k last e p = let q : [] ≡ ts = cc in rw (← q)
    placed-again (s ∷ ss) ts k last e p =
        let z = both_zero from (listed_number from k last s) (list_from from (suc k) (from.record_name s) ss) e in
        let b = both_some {A = B} {B = List B} {C = List B} (λ t ts. t ∷ ts) (place s) (placed place ss) ts p in
        let q : b.first ∷ b.second ≡ ts = b.is in
        rw (
          ← q,
          again s b.first (write_zero from k last s z.0).0 b.here,
          placed-again ss b.second (suc k) (from.record_name s) z.1 b.there,
        )

    -- moved and moved back, a text has its records tidied
    pub there_and_back : Lawful from → Lawful to → (text : List ℕ) (ss : List A) (ts : List B) → read_of from text ≡ Good ss
        → placed place ss ≡ some ts → move to from return (text_of to ts) ≡ Text (text_of from (map tidy ss))
    unfolding move
    there_and_back l1 l2 text ss ts e p = rw (moved-reads l1 l2 text ss ts e p, placed-again ss ts 0 [] (one-text from l1 text ss e).1 p)

-- where each record has a place
pub all_placed : {A B : Type 0} (up : A → B) (ss : List A) → placed (λ s. some (up s)) ss ≡ some (map up ss)
all_placed up [] = refl
all_placed up (s ∷ ss) = rw (all_placed up ss)

-- records that are other ones have another text
pub same_records : {A : Type 0} (form : Form A) → Lawful form → (ss ts : List A) → list_number form ss ≡ 0 → list_number form ts ≡ 0
    → text_of form ss ≡ text_of form ts → ss ≡ ts
same_records {A} form l ss ts e f g = good (sym (read_back form l ss e) ∙ ap (read_of form) g ∙ read_back form l ts f)
  where
    good : ◌≡◌ {A = Found A} (Good ss) (Good ts) → ss ≡ ts
    good h = cc

-- one text is not of two forms with different first lines
pub other_form : {A B : Type 0} (from : Form A) (to : Form B) → same to.heading from.heading ≡ false → (text : List ℕ)
    → (read_of to text ≡ Bad 1 80 → ⊥) → read_of from text ≡ Bad 1 80
unfolding read_of opened_by
other_form {A} {B} from to d text h = by (parted 10 text) refl h
  where
    by : (ps : List (List ℕ)) → parted 10 text ≡ ps → (opened_by to ps ≡ Bad 1 80 → ⊥) → opened_by from ps ≡ Bad 1 80
    by [] e g = refl
    by (p ∷ []) e g = refl
    by (p ∷ q ∷ ps) e g = first (same p to.heading) refl g
      where
        first : (t : Bool) → same p to.heading ≡ t → (cond t (lines_in to 0 [] (q ∷ ps)) (Bad 1 80) ≡ Bad 1 80 → ⊥)
            → cond (same p from.heading) (lines_in from 0 [] (q ∷ ps)) (Bad 1 80) ≡ Bad 1 80
        first true f g = rw (same_eq _ _ f, d)
        first false f g = absurd (g refl)

-- R is in its range where the rate is
pub number_parts : (n m rate : ℕ) → new_number n m rate ≡ 0 → (new_number n m 0 ≡ 0) × (rate ≤ 65535)
unfolding refusal_of
number_parts n m rate h = by (ltb 8 n) refl (eqb m 0 || ltb 8 m) refl (ltb 65535 rate) refl h
  where
    by : (a : Bool) → ltb 8 n ≡ a → (b : Bool) → (eqb m 0 || ltb 8 m) ≡ b → (t : Bool) → ltb 65535 rate ≡ t
        → cond {A = ℕ} a 10 (cond b 11 (cond t 12 (cond (ltb 65535 0) 13 (cond (ltb (n * m) 0) 15 0)))) ≡ 0
        → (cond {A = ℕ} (ltb 8 n) 10 (cond (eqb m 0 || ltb 8 m) 11 (cond (ltb 65535 0) 12 (cond (ltb 65535 0) 13 (cond (ltb (n * m) 0) 15 0)))) ≡ 0)
        × (rate ≤ 65535)
    by true d b e t f k = absurd (omega arith)
    by false d true e t f k = absurd (omega arith)
    by false d false e true f k = absurd (omega arith)
    by false d false e false f k = (rw (d, e) k, ltb-false 65535 rate f)

number-whole : (n m rate : ℕ) → new_number n m 0 ≡ 0 → rate ≤ 65535 → new_number n m rate ≡ 0
unfolding refusal_of
number-whole n m rate h r = rw (le-ltb 65535 rate r) h

factor_zero : (n m rate : ℕ) → cic_number One n m rate ≡ 0 → cic_number Two n m (suc rate) ≡ 0
factor_zero n m rate e =
    let p = number_parts n m rate e in
    rw (p.0, le-leb 1 (suc rate) (omega arith), le-leb (suc rate) 65536 (omega (arith, p.1)))

factor_parts : (n m r : ℕ) → cic_number Two n m r ≡ 0 → (new_number n m 0 ≡ 0) × ((1 ≤ r) × (r ≤ 65536))
factor_parts n m r e =
    let z = both_zero form2 (new_number n m 0) (cond (leb 1 r && leb r 65536) 0 12) e in
    (z.0, by (leb 1 r) refl (leb r 65536) refl z.1)
  where
    by : (t : Bool) → leb 1 r ≡ t → (u : Bool) → leb r 65536 ≡ u → cond {A = ℕ} (t && u) 0 12 ≡ 0 → (1 ≤ r) × (r ≤ 65536)
    by true f true g h = (leb-true 1 r f, leb-true r 65536 g)
    by true f false g h = absurd (omega arith)
    by false f u g h = absurd (omega arith)

rate-zero : (n m r : ℕ) → cic_number Two n m r ≡ 0 → cic_number One n m (r - 1) ≡ 0
rate-zero n m r e = let p = factor_parts n m r e in number-whole n m (r - 1) p.0 (omega (arith, p.1.1))

-- three numbers, the last of which moves
three_lie : (n m r q : ℕ) → all_lie unsigned (pos n ∷ pos m ∷ pos r ∷ []) ≡ true → q ≤ 65536 → all_lie unsigned (pos n ∷ pos m ∷ pos q ∷ []) ≡ true
three_lie n m r q h l =
    let b = two (lies unsigned (pos n)) (all_lie unsigned (pos m ∷ pos r ∷ [])) h in
    let c = two (lies unsigned (pos m)) (all_lie unsigned (pos r ∷ [])) b.1 in
    rw (b.0, c.0, le-leb q 4294967295 (omega arith))

-- a moved architecture is refused by no number
moved_fine : (k arch : ℕ) → sections_number k arch ≡ 0 → wdf_number Two k (moved k arch) ≡ 0
unfolding wdf.new_number
moved_fine k arch e = rw (moved-number k arch, e, moved_none k arch)

raised-kept : (s : Setting) → formed One s ≡ true → parameters One s ≡ 0 → Kept (form_of One) (form_of Two) s (raised s)
unfolding form_of formed parameters raised
raised-kept (Cic name n m rate) h e =
    let a = two (is_name name) (all_lie unsigned (pos n ∷ pos m ∷ pos rate ∷ [])) h in
    record {
      name = refl;
      formed = rw (a.0, three_lie n m rate (suc rate) a.1 (omega (arith, (number_parts n m rate e).1)));
      parameters = factor_zero n m rate e;
    }
raised-kept (Wdf name arch cs) h e = record { name = refl; formed = h; parameters = moved_fine (length cs) arch e }
raised-kept (Dither name f cs) h e = absurd (let z : ◌≡◌ {A = ℕ} 0 1 = cc in omega arith)

pub forth-keeps : Keeps (form_of One) (form_of Two) (λ s. some (raised s))
unfolding form_of
forth-keeps s t h e p = let q : raised s ≡ t = cc in rw (← q) (raised-kept s h e)

pub back-keeps : Keeps (form_of Two) (form_of One) lowered
unfolding form_of formed parameters lowered
back-keeps (Cic name n m r) t h e p =
    let q : Cic name n m (r - 1) ≡ t = cc in
    let a = two (is_name name) (all_lie unsigned (pos n ∷ pos m ∷ pos r ∷ [])) h in
    rw (← q) (record {
      name = refl;
      formed = rw (a.0, three_lie n m r (r - 1) a.1 (omega (arith, (factor_parts n m r e).1.1)));
      parameters = rate-zero n m r e;
    })
back-keeps (Wdf name arch cs) t h e p = let q : Wdf name arch cs ≡ t = cc in rw (← q)
    (record { name = refl; formed = h; parameters = sections_fine Two (length cs) arch e })
back-keeps (Dither name f cs) t h e p = absurd (let z : ◌≡◌ {A = ℕ} 0 1 = cc in omega arith)

raised-again : (s t : Setting) → formed One s ≡ true → ◌≡◌ {A = Option Setting} (some (raised s)) (some t) → lowered t ≡ some (renewed s)
unfolding formed raised lowered renewed
raised-again (Cic name n m rate) t h p =
    let q : Cic name n m (suc rate) ≡ t = cc in
    let e : suc rate - 1 ≡ rate = omega arith in
    rw (← q) (ap (λ (k : ℕ). some (Cic name n m k)) e)
raised-again (Wdf name arch cs) t h p = let q : Wdf name (moved (length cs) arch) cs ≡ t = cc in rw (← q)
raised-again (Dither name f cs) t h p = absurd (let z : ◌≡◌ {A = ℕ} 0 1 = cc in omega arith)

form_again : (s t : Setting) → (form_of One).formed s ≡ true → ◌≡◌ {A = Option Setting} (some (raised s)) (some t) → lowered t ≡ some (renewed s)
unfolding form_of
form_again s t h p = raised-again s t h p

-- A13: forth and back gives b and c where e and f stood
pub forth_and_back : ForthAndBack
unfolding move
forth_and_back text ss e =
    let p = all_placed raised ss in
    let keeps = forth-keeps in
    rw (e, p)
    (there_and_back form1 form2 (λ s. some (raised s)) keeps lowered renewed form_again (lawful One) (lawful Two) text ss (map raised ss) e p)

-- what holds no e and f is not changed by it, and what holds one is
renewed-same : (s : Setting) → is_retired s ≡ false → renewed s ≡ s
unfolding renewed
renewed-same (Cic name n m rate) h = refl
renewed-same (Wdf name arch cs) h = ap (λ (m : ℕ). Wdf name m cs) (moved_same (length cs) arch h)
renewed-same (Dither name f cs) h = refl

none-retired : (s : Setting) → is_retired (renewed s) ≡ false
unfolding renewed
none-retired (Cic name n m rate) = refl
none-retired (Wdf name arch cs) = moved_none (length cs) arch
none-retired (Dither name f cs) = refl

neither : (t u : Bool) → (t || u) ≡ false → (t ≡ false) × (u ≡ false)
neither true u h = absurd (true≢false h)
neither false u h = (refl, h)

all_same : (ss : List Setting) → any_retired ss ≡ false → map renewed ss ≡ ss
all_same [] h = refl
all_same (s ∷ ss) h =
    let b = neither (is_retired s) (any_retired ss) h in
    rw (renewed-same s b.0, all_same ss b.1)

all_none : (ss : List Setting) → any_retired (map renewed ss) ≡ false
all_none [] = refl
all_none (s ∷ ss) = rw (none-retired s) (all_none ss)

-- with b and c in their places, records of form 1 are records of form 1
renewed-kept : (s : Setting) → formed One s ≡ true → parameters One s ≡ 0 → Kept (form_of One) (form_of One) s (renewed s)
unfolding form_of formed parameters renewed
renewed-kept (Cic name n m rate) h e = record { name = refl; formed = h; parameters = e }
renewed-kept (Wdf name arch cs) h e = record { name = refl; formed = h; parameters = moved-number (length cs) arch ∙ e }
renewed-kept (Dither name f cs) h e = absurd (let z : ◌≡◌ {A = ℕ} 0 1 = cc in omega arith)

renewed-keeps : Keeps (form_of One) (form_of One) (λ s. some (renewed s))
unfolding form_of
renewed-keeps s t h e p = let q : renewed s ≡ t = cc in rw (← q) (renewed-kept s h e)

-- A13: the same bytes, but for a file that holds e or f, and only such
pub only-retired : OnlyRetired
only-retired text ss e =
    let o = one-text form1 (lawful One) text ss e in
    let there = forth_and_back text ss e in (
      λ h. there ∙ ap Text (ap (text_of form1) (all_same ss h) ∙ sym o.0),
      λ h same.
          let keeps = renewed-keeps in
          let n = list_kept form1 form1 (λ s. some (renewed s)) keeps ss (map renewed ss) 0 [] o.1 (all_placed renewed ss) in
          let t : text_of form1 (map renewed ss) ≡ text_of form1 ss = text_is (sym there ∙ same) ∙ o.0 in
          let r = same_records form1 (lawful One) (map renewed ss) ss n o.1 t in
          true≢false (sym h ∙ ap any_retired (sym r) ∙ all_none ss),
    )
  where
    text_is : {a b : List ℕ} → Text a ≡ Text b → a ≡ b
    text_is h = cc

-- a record without a place is a `dither`
abbrev pub missing : Option (List Setting) → Bool
missing none = true
missing (some ss) = false

behind : (s : Setting) (o : Option (List Setting)) → missing o ≡ missing (both (λ (t : Setting) (ts : List Setting). t ∷ ts) (some s) o)
behind s none = refl
behind s (some ts) = refl

pub dither_missing : (ss : List Setting) → any_dither ss ≡ missing (placed lowered ss)
unfolding lowered
dither_missing [] = refl
dither_missing (Cic name n m r ∷ ss) = dither_missing ss ∙ behind (Cic name n m (r - 1)) (placed lowered ss)
dither_missing (Wdf name arch cs ∷ ss) = dither_missing ss ∙ behind (Wdf name arch cs) (placed lowered ss)
dither_missing (Dither name f cs ∷ ss) = refl

-- A12: back is refused with 84 exactly when a `dither` record is present
pub back-refused : BackRefused
unfolding move
back-refused text ss e = rw e (by (placed lowered ss) (dither_missing ss))
  where
    by : (o : Option (List Setting)) → any_dither ss ≡ missing o → (any_dither ss ≡ true → placed_text form2 form1 lowered o ≡ Refused 0 84) ×
        (any_dither ss ≡ false → (n : ℕ) → refused_with n (placed_text form2 form1 lowered o) ≡ false)
    by none h = (λ g. refl, λ g n. absurd (let z : ◌≡◌ {A = Bool} true false = cc in let y : ◌≡◌ {A = ℕ} 0 1 = cc in omega arith))
    by (some ts) h = (λ g. absurd (let z : ◌≡◌ {A = Bool} true false = cc in let y : ◌≡◌ {A = ℕ} 0 1 = cc in omega arith), λ g n. refl)

headings_differ : same form2.heading form1.heading ≡ false
unfolding form_of same
headings_differ = refl

-- A12: programs that know only form 1 refuse form 2 with 80
pub other_form_refused : OtherFormRefused
other_form_refused text h = other_form form1 form2 headings_differ text h
