-- A text is read line by line as it was written: so the laws of a form's lines carry over to whole texts.
use native.Mathlib.Omega.{arith}
use mathlib.Core.Path.{◌≡◌, refl, sym, ap, ◌∙◌}
use mathlib.Core.Bool.{Bool, true, false, cond}
use mathlib.Core.List.{List, [], ◌∷◌}
use mathlib.Core.Option.{Option, none, some}
use Prim.Native.Nat.{ℕ, zero, suc, ◌<◌}
use lib.Dec.{leb, eqb}
use lib.ListN.{length}
use borrow.Author.Tests.{eqb-true}
use Rattle.text.specs.Order.{precedes}
use Rattle.text.specs.Parts.{parted, joined_by, count}
use Rattle.text.specs.Same.{same}
use Rattle.text.proofs.Joining.{Plain, none, more, parted-joined, joined-parted}
use Rattle.text.proofs.Sameness.{same_self, same_eq}
use Rattle.settings_text.specs.Laws.{Lawful, ReadBack, OneText, Numbered}
use Rattle.settings_text.specs.Stores.{Form, Found, Good, Bad, or_else, record_number, listed_number, list_from, list_number}
use Rattle.settings_text.specs.Stores.{parts_of, text_of, refused_at, with_first, judged, line_then, lines_in, opened_by, read_of}

module _ {A : Type 0} (form : Form A) where
  pub both_zero : (n m : ℕ) → or_else n m ≡ 0 → (n ≡ 0) × (m ≡ 0)
  both_zero zero m h = (refl, h)
  both_zero (suc n) m h = absurd (omega arith)

  pub write_zero : (k : ℕ) (last : List ℕ) (s : A) → listed_number form k last s ≡ 0 → (form.formed s ≡ true) ×
      (record_number form k last s ≡ 0)
  unfolding listed_number
  write_zero k last s h = by (form.formed s) refl h
    where
      by : (t : Bool) → form.formed s ≡ t → cond t (record_number form k last s) 81 ≡ 0 → (form.formed s ≡ true) ×
          (record_number form k last s ≡ 0)
      by true e g = (e, g)
      by false e g = absurd (omega arith)

  pub no_parameter : (k : ℕ) (last : List ℕ) (s : A) → record_number form k last s ≡ 0 → form.parameters s ≡ 0
  unfolding record_number
  no_parameter k last s h = by (leb 64 k) (precedes last (form.record_name s)) h
    where
      by : (t u : Bool) → cond t 83 (cond u (form.parameters s) 82) ≡ 0 → form.parameters s ≡ 0
      by true u g = absurd (omega arith)
      by false true g = g
      by false false g = absurd (omega arith)

module _ {A : Type 0} (form : Form A) (laws : Lawful form) where
  parts_some : (ss : List A) → 0 < length (parts_of form ss)
  parts_some [] = omega arith
  parts_some (s ∷ ss) = omega arith

  lines_on : (k : ℕ) (last line : List ℕ) (parts : List (List ℕ)) → 0 < length parts
      → lines_in form k last (line ∷ parts) ≡ line_then form k last (form.record_in line) (λ s. lines_in form (suc k) (form.record_name s) parts)
  unfolding lines_in
  lines_on k last line [] h = absurd (omega arith)
  lines_on k last line (p ∷ parts) h = refl

  -- reading what was written, line by line
  lines-back : (ss : List A) (k : ℕ) (last : List ℕ) → list_from form k last ss ≡ 0 → lines_in form k last (parts_of form ss) ≡ Good ss
  unfolding lines_in list_from
  lines-back [] k last h = refl
  lines-back (s ∷ ss) k last h =
      let z = both_zero form (listed_number form k last s) (list_from form (suc k) (form.record_name s) ss) h in
      let w = write_zero form k last s z.0 in
      lines_on k last (form.record_line s) (parts_of form ss) (parts_some ss)
      ∙ rw (laws.again s w.0 (no_parameter form k last s w.1), w.1, lines-back ss (suc k) (form.record_name s) z.1)

  plain : (ss : List A) (k : ℕ) (last : List ℕ) → list_from form k last ss ≡ 0 → Plain 10 (parts_of form ss)
  unfolding list_from count
  plain [] k last h = more refl none
  plain (s ∷ ss) k last h =
      let z = both_zero form (listed_number form k last s) (list_from form (suc k) (form.record_name s) ss) h in
      let w = write_zero form k last s z.0 in
      more (laws.one_line s w.0 (no_parameter form k last s w.1)) (plain ss (suc k) (form.record_name s) z.1)

  opened_on : (parts : List (List ℕ)) → 0 < length parts → opened_by form (form.heading ∷ parts) ≡ lines_in form 0 [] parts
  unfolding opened_by
  opened_on [] h = absurd (omega arith)
  opened_on (p ∷ parts) h = rw (same_self form.heading)

  -- A7: reading what was written gives the same settings
  pub read_back : ReadBack form
  unfolding read_of text_of
  read_back ss h =
      let f : list_from form 0 [] ss ≡ 0 = h in
      ap (opened_by form) (parted-joined 10 form.heading (parts_of form ss) (more laws.one_heading (plain ss 0 [] f)))
      ∙ opened_on (parts_of form ss) (parts_some ss) ∙ lines-back ss 0 [] f

  -- what is read was written: line by line
  record Written (k : ℕ) (last : List ℕ) (parts : List (List ℕ)) (ss : List A) : Type 0 where
    pub text : parts ≡ parts_of form ss
    pub good : list_from form k last ss ≡ 0

  lines-only : (parts : List (List ℕ)) (k : ℕ) (last : List ℕ) (ss : List A) → lines_in form k last parts ≡ Good ss → Written k last parts ss
  unfolding lines_in list_from listed_number
  lines-only [] k last ss e = absurd (let z : ◌≡◌ {A = ℕ} 0 1 = cc in omega arith)
  lines-only (rest ∷ []) k last ss e = by (eqb (length rest) 0) refl e
    where
      empty : (l : List ℕ) → length l ≡ 0 → l ≡ []
      empty [] h = refl
      empty (b ∷ l) h = absurd (omega arith)

      by : (t : Bool) → eqb (length rest) 0 ≡ t → cond t (Good []) (refused_at form k 81) ≡ Good ss → Written k last (rest ∷ []) ss
      by true f g =
          let p : [] ≡ ss = cc in
          rw (← p) (record { text = ap (λ (l : List ℕ). l ∷ []) (empty rest (eqb-true _ _ f)); good = refl })
      by false f g = absurd (let z : ◌≡◌ {A = ℕ} 0 1 = cc in omega arith)
  lines-only (line ∷ next ∷ rest) k last ss e = taken (form.record_in line) refl
      (λ s ts. lines-only (next ∷ rest) (suc k) (form.record_name s) ts) e
    where
      held : (s : A) → form.record_in line ≡ some s → (n : ℕ) → record_number form k last s ≡ n → (r : Found A)
          → ((ts : List A) → r ≡ Good ts → Written (suc k) (form.record_name s) (next ∷ rest) ts) → judged form k n s r ≡ Good ss
          → Written k last (line ∷ next ∷ rest) ss
      held s f zero d (Good ts) w g =
          let p : s ∷ ts ≡ ss = cc in
          let l = laws.only line s f in
          let v = w ts refl in
          rw (← p) (record {
            text = ap (λ (x : List ℕ). x ∷ next ∷ rest) l.0 ∙ ap (λ (x : List (List ℕ)). form.record_line s ∷ x) v.text;
            good = rw (l.1, d) v.good;
          })
      held s f zero d (Bad line m) w g = absurd (let z : ◌≡◌ {A = ℕ} 0 1 = cc in omega arith)
      held s f (suc n) d r w g = absurd (let z : ◌≡◌ {A = ℕ} 0 1 = cc in omega arith)

      taken : (o : Option A) → form.record_in line ≡ o →
          ((s : A) (ts : List A) → lines_in form (suc k) (form.record_name s) (next ∷ rest) ≡ Good ts → Written (suc k)
          (form.record_name s) (next ∷ rest) ts)
          → line_then form k last o (λ s. lines_in form (suc k) (form.record_name s) (next ∷ rest)) ≡ Good ss → Written k last
          (line ∷ next ∷ rest) ss
      taken none f w g = absurd (let z : ◌≡◌ {A = ℕ} 0 1 = cc in omega arith)
      taken (some s) f w g = held s f (record_number form k last s) refl (lines_in form (suc k) (form.record_name s) (next ∷ rest)) (w s) g

  -- A7: each list of settings has one text, and what can be read can be written
  pub one-text : OneText form
  unfolding read_of text_of opened_by
  one-text text ss e = by (parted 10 text) refl e
    where
      by : (ps : List (List ℕ)) → parted 10 text ≡ ps → opened_by form ps ≡ Good ss → (text ≡ text_of form ss) × (list_number form ss ≡ 0)
      by [] f g = absurd (let z : ◌≡◌ {A = ℕ} 0 1 = cc in omega arith)
      by (p ∷ []) f g = absurd (let z : ◌≡◌ {A = ℕ} 0 1 = cc in omega arith)
      by (p ∷ q ∷ ps) f g = first (same p form.heading) refl g
        where
          first : (t : Bool) → same p form.heading ≡ t → cond t (lines_in form 0 [] (q ∷ ps)) (Bad 1 80) ≡ Good ss →
              (text ≡ text_of form ss) × (list_number form ss ≡ 0)
          first true h k =
              let w = lines-only (q ∷ ps) 0 [] ss k in (
                sym (joined-parted 10 text) ∙ ap (joined_by 10)
                    (f ∙ ap (λ (x : List ℕ). x ∷ q ∷ ps) (same_eq _ _ h) ∙ ap (λ (x : List (List ℕ)). form.heading ∷ x) w.text),
                w.good,
              )
          first false h k = absurd (let z : ◌≡◌ {A = ℕ} 0 1 = cc in omega arith)

-- every refusal's number is above 0
abbrev told : {A : Type 0} → Found A → ℕ
told (Good ss) = 1
told (Bad line n) = n

module _ {A : Type 0} (form : Form A) where
  lines-told : (parts : List (List ℕ)) (k : ℕ) (last : List ℕ) → 0 < told (lines_in form k last parts)
  unfolding lines_in
  lines-told [] k last = omega arith
  lines-told (rest ∷ []) k last = by (eqb (length rest) 0)
    where
      by : (t : Bool) → 0 < told (cond t (Good []) (refused_at form k 81))
      by true = omega arith
      by false = omega arith
  lines-told (line ∷ next ∷ rest) k last = by (form.record_in line) (λ s. lines-told (next ∷ rest) (suc k) (form.record_name s))
    where
      behind : (s : A) (r : Found A) → 0 < told r → 0 < told (with_first form s r)
      behind s (Good ss) h = omega arith
      behind s (Bad l n) h = h

      numbered : (n : ℕ) (s : A) (r : Found A) → 0 < told r → 0 < told (judged form k n s r)
      numbered zero s r h = behind s r h
      numbered (suc n) s r h = omega arith

      by : (o : Option A) → ((s : A) → 0 < told (lines_in form (suc k) (form.record_name s) (next ∷ rest)))
          → 0 < told (line_then form k last o (λ s. lines_in form (suc k) (form.record_name s) (next ∷ rest)))
      by none f = omega arith
      by (some s) f = numbered (record_number form k last s) s (lines_in form (suc k) (form.record_name s) (next ∷ rest)) (f s)

  opened-told : (parts : List (List ℕ)) → 0 < told (opened_by form parts)
  unfolding opened_by
  opened-told [] = omega arith
  opened-told (p ∷ []) = omega arith
  opened-told (p ∷ q ∷ ps) = by (same p form.heading)
    where
      by : (t : Bool) → 0 < told (cond t (lines_in form 0 [] (q ∷ ps)) (Bad 1 80))
      by true = lines-told (q ∷ ps) 0 []
      by false = omega arith

  pub numbered : Numbered form
  unfolding read_of
  numbered text line e = let h = opened-told (parted 10 text) in let z : told (read_of form text) ≡ 0 = ap told e in omega arith
