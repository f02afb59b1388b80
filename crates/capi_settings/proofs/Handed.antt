-- A call handed on: what it answers as a number, and what it leaves in what is lent.
use mathlib.Core.Path.{◌≡◌, refl, sym, ap, ◌∙◌}
use mathlib.Core.Bool.{Bool, true, false, cond}
use mathlib.Core.List.{List, [], ◌∷◌}
use mathlib.Core.Option.{some}
use Prim.Native.Nat.{ℕ, zero, suc, ◌<◌}
use native.Mathlib.Omega.{arith}
use lib.Dec.{leb, eqb}
use lib.ListN.{length, get_or}
use borrow.Author.Tests.{ne_eqb, eq-eqb}
use Rattle.std.specs.Prelude.{Result, Ok, Err}
use Rattle.blocks.specs.declared.refusal.Refusal.{Refusal}
use Rattle.blocks.specs.Blocks.{unless}
use Rattle.blocks.specs.Refusals.{number_of, refusal_at}
use Rattle.settings_text.specs.declared.version.Version.{Version}
use Rattle.settings_text.specs.declared.version.Version.TheVariants.{One, Two}
use Rattle.settings_text.specs.Lines.{Setting, form_of}
use Rattle.settings_text.specs.Stores.{Found, Good, Bad, read_of}
use Rattle.settings_text.specs.Moves.{Moved, Text, forth, back, raised, lowered}
use Rattle.settings_text.specs.Moves as asked
use Rattle.settings_text.proofs.Stores.{numbered}
use Rattle.settings_text.proofs.Refusals.{Known, none_known, known_83, chosen, first_of, list_known, number_back, read_row, move_row}
use Rattle.entries.specs.Entries.{records_in, number_as}
use Rattle.entries.specs.declared.settings.Entry.{Entry}
use Rattle.entries.specs.declared.settings.Settings.{Settings}
use Rattle.store_read.specs.declared.reading.BadLine.{BadLine}
use Rattle.store_read.specs.Reading.{found, settings_of}
use Rattle.store_write.specs.Saving.{SavesAs, saved, save_answer, text_as}
use Rattle.store.specs.Moving.{Moves}
use Rattle.capi_settings.specs.Fields.{Fields, version_at, fields_of}
use Rattle.capi_settings.specs.Calls.{read_in, number_found, line_found, settings_found, record_at, placed, slice_as, Counts, Tells, Puts, Sends}

stays : {A : Type 0} (k : ℕ) (s t : A) → (k ≡ 0 → ⊥) → s ≡ unless k s t
stays k s t h = rw (ne_eqb k 0 h)

comes : {A : Type 0} (k : ℕ) (s t : A) → k ≡ 0 → t ≡ unless k s t
comes k s t e = rw e

short_row : number_of (refusal_at 20) ≡ 20
unfolding refusal_at
short_row = refl

-- an element that is there, whatever stands for one that is not
pub there : {A : Type 0} (l : List A) (i : ℕ) (d e : A) → i < length l → get_or l i d ≡ get_or l i e
there [] i d e h = absurd (omega arith)
there (x ∷ l) zero d e h = refl
there (x ∷ l) (suc i) d e h = there l i d e (omega arith)

-- what writing answers, as numbers
module _ (k l : ℕ) (t o : List ℕ) where
  saved_ok : (c : ℕ) → ◌≡◌ {A = Result ℕ Refusal} (Ok c) (saved k t o (λ n. Err (refusal_at n)) (Ok l))
      → (0 ≡ saved k t o (λ n. n) 0) × ((n : ℕ) → c ≡ saved k t o (λ j. n) l)
  saved_ok c e = by (eqb k 0) (leb (length t) (length o)) e
    where
      by : (a b : Bool) → ◌≡◌ {A = Result ℕ Refusal} (Ok c) (cond a (cond b (Ok l) (Err (refusal_at 20))) (Err (refusal_at k)))
          → (0 ≡ cond a (cond b 0 20) k) × ((n : ℕ) → c ≡ cond a (cond b l n) n)
      by true true e = let q : c ≡ l = cc in (refl, λ n. q)
      by true false e = cc
      by false b e = cc

  saved_err : (r : Refusal) → ((k ≡ 0 → ⊥) → number_of (refusal_at k) ≡ k)
      → ◌≡◌ {A = Result ℕ Refusal} (Err r) (saved k t o (λ n. Err (refusal_at n)) (Ok l))
      → (number_of r ≡ saved k t o (λ n. n) 0) × ((n : ℕ) → n ≡ saved k t o (λ j. n) l)
  saved_err r row e = by (eqb k 0) refl (leb (length t) (length o)) e
    where
      by : (a : Bool) → eqb k 0 ≡ a → (b : Bool)
          → ◌≡◌ {A = Result ℕ Refusal} (Err r) (cond a (cond b (Ok l) (Err (refusal_at 20))) (Err (refusal_at k)))
          → (number_of r ≡ cond a (cond b 0 20) k) × ((n : ℕ) → n ≡ cond a (cond b l n) n)
      by true f true e = cc
      by true f false e = let q : r ≡ refusal_at 20 = cc in (rw q short_row, λ n. refl)
      by false f b e =
          let q : r ≡ refusal_at k = cc in
          let d : k ≡ 0 → ⊥ = λ z. (let y : true ≡ false = sym (eq-eqb k 0 z) ∙ f in cc) in
          (rw q (row d), λ n. refl)

number_known : (v : Version) (s : Settings) → Known (number_as v s)
unfolding number_as
number_known v s = first_of _ _ (list_known v (records_in s)) (chosen _ _ _ none_known known_83)

module _ (form : ℕ) (text : List ℕ) (v : Version) (ev : v ≡ version_at form) where
  here : read_of (form_of v) text ≡ read_in form text
  here = ap (λ (w : Version). read_of (form_of w) text) ev

  -- a text that is refused
  module _ (b : BadLine) (e : Err b ≡ found (read_of (form_of v) text)) where
    record Told : Type 0 where
      pub number : number_of b.refusal ≡ number_found (read_in form text)
      pub line : b.line ≡ line_found (read_in form text)
      pub some : number_found (read_in form text) ≡ 0 → ⊥

    told : Told
    told = by (read_of (form_of v) text) refl e
      where
        by : (f : Found Setting) → read_of (form_of v) text ≡ f → Err b ≡ found f → Told
        by (Good ss) p q = cc
        by (Bad l n) p q =
            let i : b ≡ record { line = l; refusal = refusal_at n } = cc in
            let at : read_in form text ≡ Bad l n = sym here ∙ p in
            record {
              number = rw i (read_row v text l n p ∙ sym (ap number_found at));
              line = rw i (sym (ap line_found at));
              some = λ z. numbered (form_of v) text l (p ∙ ap (Bad l) (sym (ap number_found at) ∙ z));
            }

    pub bad_line : b.line ≡ line_found (read_in form text)
    bad_line = told.line

    pub counts_not : (n : ℕ) → Counts form text n n (number_of b.refusal)
    counts_not n = record { answer = told.number; count = stays _ n _ told.some }

    pub tells_not : (i : ℕ) (s : Fields) → Tells form text i s s (number_of b.refusal)
    tells_not i s = record { answer = told.number; fields = stays _ s _ told.some }

    pub puts_not : (i : ℕ) (x : Entry) (o : List ℕ) (n : ℕ) → Puts form text i x o n o n (number_of b.refusal)
    puts_not i x o n = record {
      answer = told.number ∙ stays _ _ _ told.some;
      written = stays _ o _ told.some;
      count = stays _ n _ told.some;
    }

  -- one that is read
  module _ (h : Settings) (e : Ok h ≡ found (read_of (form_of v) text)) where
    record Held : Type 0 where
      pub number : number_found (read_in form text) ≡ 0
      pub line : line_found (read_in form text) ≡ 0
      pub is : h ≡ settings_found (read_in form text)

    held : Held
    held = by (read_of (form_of v) text) refl e
      where
        by : (f : Found Setting) → read_of (form_of v) text ≡ f → Ok h ≡ found f → Held
        by (Good ss) p q =
            let i : h ≡ settings_of ss = cc in
            let at : read_in form text ≡ Good ss = sym here ∙ p in
            record { number = ap number_found at; line = ap line_found at; is = i ∙ sym (ap settings_found at) }
        by (Bad l n) p q = cc

    pub no_line : 0 ≡ line_found (read_in form text)
    no_line = sym held.line

    pub counts : (n : ℕ) → Counts form text n h.count 0
    counts n = record { answer = sym held.number; count = ap (λ (s : Settings). s.count) held.is ∙ comes _ n _ held.number }

    pub tells : (i : ℕ) (s t : Fields) (x : Entry) → x ≡ record_at h i → t ≡ fields_of x → Tells form text i s t 0
    tells i s t x f g = record {
      answer = sym held.number;
      fields = g ∙ ap fields_of (f ∙ ap (λ (s : Settings). record_at s i) held.is) ∙ comes _ s _ held.number;
    }

    module _ (i : ℕ) (x y : Entry) (o : List ℕ) (n : ℕ) (s : Settings) (o' : List ℕ) (ey : y ≡ x) (f : s ≡ placed h i y) where
      put_is : s ≡ placed (settings_found (read_in form text)) i x
      put_is = f ∙ ap (placed h i) ey ∙ ap (λ (u : Settings). placed u i x) held.is

      saves : (w : Result ℕ Refusal) → SavesAs v s o w o'
          → (w ≡ save_answer (version_at form) (placed (settings_found (read_in form text)) i x) o)
          × (o' ≡ slice_as form (placed (settings_found (read_in form text)) i x) o)
      saves w b = (rw (ev, put_is) at b.answer, rw (ev, put_is) at b.written)

      pub puts : (c : ℕ) → SavesAs v s o (Ok c) o' → Puts form text i x o n o' c 0
      puts c b =
          let a = saves (Ok c) b in
          let p = placed (settings_found (read_in form text)) i x in
          let u = version_at form in
          let z = saved_ok (number_as u p) (length (text_as u p)) (text_as u p) o c a.0 in
          record {
            answer = z.0 ∙ comes _ _ _ held.number;
            written = a.1 ∙ comes _ o _ held.number;
            count = z.1 n ∙ comes _ n _ held.number;
          }

      pub puts_bad : (r : Refusal) → SavesAs v s o (Err r) o' → Puts form text i x o n o' n (number_of r)
      puts_bad r b =
          let a = saves (Err r) b in
          let p = placed (settings_found (read_in form text)) i x in
          let u = version_at form in
          let z = saved_err (number_as u p) (length (text_as u p)) (text_as u p) o r (number_back (number_as u p) (number_known u p)) a.0 in
          record {
            answer = z.0 ∙ comes _ _ _ held.number;
            written = a.1 ∙ comes _ o _ held.number;
            count = z.1 n ∙ comes _ n _ held.number;
          }

-- a move
module _ (m : Moved) (o : List ℕ) (n : ℕ) (o' : List ℕ) where
  pub sends : (c : ℕ) → Moves m o (Ok c) o' → Sends m o n o' c 0
  sends c b = at m b
    where
      at : (m : Moved) → Moves m o (Ok c) o' → Sends m o n o' c 0
      at (asked.Refused line k) b = let q = b.answer in cc
      at (asked.Text t) b = by (leb (length t) (length o)) refl b.answer
        where
          by : (x : Bool) → leb (length t) (length o) ≡ x
              → ◌≡◌ {A = Result ℕ BadLine} (Ok c) (cond x (Ok (length t)) (Err (record { line = 0; refusal = refusal_at 20 }))) → Sends (asked.Text t) o n o' c 0
          by true f e = let q : c ≡ length t = cc in record { answer = rw f; written = b.written; count = rw f q }
          by false f e = cc

  pub sends_not : (r : BadLine) → ((line k : ℕ) → m ≡ asked.Refused line k → number_of (refusal_at k) ≡ k) → Moves m o (Err r) o'
      → Sends m o n o' n (number_of r.refusal)
  sends_not r row b = at m row b
    where
      at : (m : Moved) → ((line k : ℕ) → m ≡ asked.Refused line k → number_of (refusal_at k) ≡ k) → Moves m o (Err r) o'
          → Sends m o n o' n (number_of r.refusal)
      at (asked.Refused line k) row b =
          let e = b.answer in
          let q : r ≡ record { line = line; refusal = refusal_at k } = cc in
          record { answer = rw q (row line k refl); written = b.written; count = refl }
      at (asked.Text t) row b = by (leb (length t) (length o)) refl b.answer
        where
          by : (x : Bool) → leb (length t) (length o) ≡ x
              → ◌≡◌ {A = Result ℕ BadLine} (Err r) (cond x (Ok (length t)) (Err (record { line = 0; refusal = refusal_at 20 })))
              → Sends (asked.Text t) o n o' n (number_of r.refusal)
          by true f e = cc
          by false f e =
              let q : r ≡ record { line = 0; refusal = refusal_at 20 } = cc in
              record { answer = rw (f, q) short_row; written = b.written; count = rw f }

module _ (text o : List ℕ) (n : ℕ) (o' : List ℕ) (r : BadLine) where
  pub forth_not : Moves (forth text) o (Err r) o' → Sends (forth text) o n o' n (number_of r.refusal)
  forth_not b = sends_not (forth text) o n o' r (λ line k e. move_row One Two (λ s. some (raised s)) text line k e) b

  pub back_not : Moves (back text) o (Err r) o' → Sends (back text) o n o' n (number_of r.refusal)
  back_not b = sends_not (back text) o n o' r (λ line k e. move_row Two One lowered text line k e) b
