-- The answer's parts stand one behind the other; which answer it is, what was found decides.
use native.Mathlib.Omega.{arith}
use mathlib.Core.Bool.{Bool, true, false, cond}
use mathlib.Core.Path.{◌≡◌, refl, sym, ap, ◌∙◌}
use mathlib.Core.List.{List, [], ◌∷◌, ◌++◌, append_assoc}
use Prim.Native.Nat.{ℕ, ◌+◌, ◌≤◌, ◌<◌, ◌^◌}
use lib.ListN.{length, length-append}
use lib.Dec.{leb}
use borrow.Author.Tests.{le-leb, leb-true, eq-eqb}
use Rattle.std.specs.Prelude.{Result, Ok, Err}
use Rattle.std.proofs.Math.Option.{some}
use Rattle.blocks.specs.declared.refusal.Refusal.{Refusal}
use Rattle.blocks.specs.Refusals.{number_of, refusal_at}
use Rattle.text.specs.Letters.{bytes, tab, newline}
use Rattle.text.specs.Numbers.{decimal_of}
use Rattle.text.specs.Writing.{Wrote, Puts, overlaid}
use Rattle.text.proofs.Putting.{written, then_puts, wrote-same, wrote-length}
use Rattle.text.proofs.Spelling.{spelt-short, decimal_most}
use Rattle.settings_text.specs.Lines.{Setting, form_of}
use Rattle.settings_text.specs.Stores.{Found, Good, Bad, read_of}
use Rattle.settings_text.specs.Moves.{Moved}
use Rattle.settings_text.specs.Moves as asked
use Rattle.settings_text.specs.declared.version.Version.{Version}
use Rattle.settings_text.specs.declared.version.Version.TheVariants.{One, Two}
use Rattle.settings_text.proofs.Refusals.{read_row, move_row}
use Rattle.store.specs.Moving.{Moves}
use Rattle.store_read.specs.Reading.{found, settings_of}
use Rattle.store_write.specs.Saving.{SavesAs, text_as}
use Rattle.entries.specs.Entries.{number_as}
use Rattle.store_read.specs.declared.reading.BadLine.{BadLine}
use Rattle.entries.specs.declared.settings.Settings.{Settings}
use Rattle.store_laws.proofs.Copied.{copy_same}
use Rattle.settings.specs.Answers.{ok_form, ok_answer, bad_answer, checked, copied, move_answer, Gave}

form_short : (v : Version) → length (ok_form v) ≡ 5
form_short One = refl
form_short Two = refl

module _ (o : List ℕ) (room : 36 ≤ length o) where
  pub ok_wrote : (v : Version) (count a b r : ℕ) (o₁ o₂ o₃ : List ℕ) → Puts o 0 (ok_form v) a o₁ → Puts o₁ a (decimal_of count) b o₂
      → Puts o₂ b (newline ∷ []) r o₃ → Gave o (ok_answer v count) r o₃
  unfolding ok_answer
  ok_wrote v count a b r o₁ o₂ o₃ x y z =
      let k = spelt-short 20 count in
      let f = form_short v in
      let p₂ : List ℕ = ok_form v ++ decimal_of count in
      let n₂ = length-append (ok_form v) (decimal_of count) in
      let w₁ : Wrote o 0 (ok_form v) a o₁ = written o 0 (ok_form v) a o₁ (omega arith) x in
      let w₂ : Wrote o 0 p₂ b o₂ = then_puts (omega arith) w₁ y in
      let w₃ : Wrote o 0 (p₂ ++ (newline ∷ [])) r o₃ = then_puts (omega arith) w₂ z in
      let n = length-append p₂ (newline ∷ []) in
      let l = wrote-length (omega arith) w₃ in
      record { wrote = wrote-same (simp append_assoc) w₃; inside = omega (arith, w₃.next) }

  pub bad_wrote : (line number a b c d r : ℕ) (o₁ o₂ o₃ o₄ o₅ : List ℕ) → number < 2 ^ 32
      → Puts o 0 (bytes "bad\t") a o₁ → Puts o₁ a (decimal_of line) b o₂ → Puts o₂ b (tab ∷ []) c o₃
      → Puts o₃ c (decimal_of number) d o₄ → Puts o₄ d (newline ∷ []) r o₅ → Gave o (bad_answer line number) r o₅
  unfolding bad_answer
  bad_wrote line number a b c d r o₁ o₂ o₃ o₄ o₅ f x y z u v =
      let k = spelt-short 20 line in
      let l = decimal_most number f in
      let p₂ : List ℕ = bytes "bad\t" ++ decimal_of line in
      let p₃ : List ℕ = p₂ ++ (tab ∷ []) in
      let n₃ : length p₃ ≡ length p₂ + 1 = length-append p₂ (tab ∷ []) in
      let p₄ : List ℕ = p₃ ++ decimal_of number in
      let n₄ : length p₄ ≡ length p₃ + length (decimal_of number) = length-append p₃ (decimal_of number) in
      let w₁ : Wrote o 0 (bytes "bad\t") a o₁ = written o 0 (bytes "bad\t") a o₁ (omega arith) x in
      let w₂ : Wrote o 0 p₂ b o₂ = then_puts (omega arith) w₁ y in
      let w₃ : Wrote o 0 p₃ c o₃ = then_puts (omega arith) w₂ z in
      let w₄ : Wrote o 0 p₄ d o₄ = then_puts (omega arith) w₃ u in
      let w₅ : Wrote o 0 (p₄ ++ (newline ∷ [])) r o₅ = then_puts (omega arith) w₄ v in
      let n₅ = length-append p₄ (newline ∷ []) in
      let m = wrote-length (omega arith) w₅ in
      record { wrote = wrote-same (simp append_assoc) w₅; inside = omega (arith, w₅.next) }

pub gave_same : {o xs ys : List ℕ} {r : ℕ} {o' : List ℕ} → xs ≡ ys → Gave o xs r o' → Gave o ys r o'
gave_same e g = record { wrote = wrote-same e g.wrote; inside = g.inside }

-- what was found tells the answer
module _ (v : Version) (text : List ℕ) where
  told : (line n : ℕ) (b : BadLine) → read_of (form_of v) text ≡ Bad line n → Err b ≡ found (Bad line n)
      → bad_answer b.line (number_of b.refusal) ≡ bad_answer line n
  told line n b f e =
      let q : b ≡ record { line = line; refusal = refusal_at n } = cc in
      rw (q, read_row v text line n f)

  module _ (b : BadLine) (e : Err b ≡ found (read_of (form_of v) text)) where
    pub bad_checked : bad_answer b.line (number_of b.refusal) ≡ checked v (read_of (form_of v) text)
    bad_checked = by (read_of (form_of v) text) refl e
      where
        by : (f : Found Setting) → read_of (form_of v) text ≡ f → Err b ≡ found f → bad_answer b.line (number_of b.refusal) ≡ checked v f
        by (Good ss) p q = cc
        by (Bad line n) p q = told line n b p q

    pub bad_copied : bad_answer b.line (number_of b.refusal) ≡ copied text (read_of (form_of v) text)
    bad_copied = by (read_of (form_of v) text) refl e
      where
        by : (f : Found Setting) → read_of (form_of v) text ≡ f → Err b ≡ found f → bad_answer b.line (number_of b.refusal) ≡ copied text f
        by (Good ss) p q = cc
        by (Bad line n) p q = told line n b p q

  -- the settings that were found
  record Held (s : Settings) : Type 0 where
    pub ss : List Setting
    pub are : read_of (form_of v) text ≡ Good ss
    pub by_value : s ≡ settings_of ss

  module _ (s : Settings) (e : Ok s ≡ found (read_of (form_of v) text)) where
    held : Held s
    held = by (read_of (form_of v) text) refl e
      where
        by : (f : Found Setting) → read_of (form_of v) text ≡ f → Ok s ≡ found f → Held s
        by (Good ss) p q = let i : s ≡ settings_of ss = cc in record { ss = ss; are = p; by_value = i }
        by (Bad line n) p q = cc

    pub ok_checked : ok_answer v s.count ≡ checked v (read_of (form_of v) text)
    ok_checked =
        let g = held in
        ap (λ (x : Settings). ok_answer v x.count) g.by_value ∙ sym (ap (checked v) g.are)

    none : number_as v s ≡ 0
    none = let g = held in ap (number_as v) g.by_value ∙ (copy_same v text g.ss g.are).0

    same_text : text_as v s ≡ text
    same_text = let g = held in ap (text_as v) g.by_value ∙ (copy_same v text g.ss g.are).1

    module _ (o : List ℕ) (room : length text ≤ length o) (o' : List ℕ) where
      fits : length (text_as v s) ≤ length o
      fits = let e = ap length same_text in omega arith

      pub copies : (n : ℕ) → SavesAs v s o (Ok n) o' → Gave o (copied text (read_of (form_of v) text)) n o'
      copies n w =
          let g = held in
          let q : ◌≡◌ {A = Result ℕ Refusal} (Ok n) (Ok (length (text_as v s))) = w.answer ∙ rw (eq-eqb _ _ none, le-leb _ _ fits) in
          let m : n ≡ length (text_as v s) = cc in
          let c : text ≡ copied text (read_of (form_of v) text) = sym (ap (copied text) g.are) in
          let k : n ≡ 0 + length (text_as v s) = m ∙ omega arith in
          let t : Wrote o 0 (text_as v s) n o' = record { next = k; text = w.written ∙ rw (eq-eqb _ _ none, le-leb _ _ fits) } in
          let l = wrote-length (omega (arith, fits)) t in
          gave_same (same_text ∙ c) (record { wrote = t; inside = omega (arith, fits) })

      pub never : (r : Refusal) → SavesAs v s o (Err r) o' → ⊥
      never r w =
          let q : ◌≡◌ {A = Result ℕ Refusal} (Err r) (Ok (length (text_as v s))) = w.answer ∙ rw (eq-eqb _ _ none, le-leb _ _ fits) in
          cc

-- a move's text stands at the buffer's start; a refusal leaves the buffer as it was
pub moved-bytes : (m : Moved) (o o' : List ℕ) (n : ℕ) → Moves m o (Ok n) o' → Gave o (move_answer m o) n o'
moved-bytes (asked.Refused line k) o o' n w = let q = w.answer in cc
moved-bytes (asked.Text t) o o' n w = by (leb (length t) (length o)) refl w.answer w.written
  where
    by : (b : Bool) → leb (length t) (length o) ≡ b
        → ◌≡◌ {A = Result ℕ BadLine} (Ok n) (cond b (Ok (length t)) (Err (record { line = 0; refusal = refusal_at 20 })))
        → o' ≡ cond b (overlaid o 0 t) o → Gave o (cond b t (bad_answer 0 20)) n o'
    by true f a c =
        let m : n ≡ length t = cc in
        let k : n ≡ 0 + length t = m ∙ omega arith in
        let h = leb-true (length t) (length o) f in
        let x : Wrote o 0 t n o' = record { next = k; text = c } in
        let l = wrote-length (omega arith) x in
        record { wrote = x; inside = omega arith }
    by false f a c = cc

short_row : number_of (refusal_at 20) ≡ 20
unfolding refusal_at
short_row = refl

pub moved_bad : (m : Moved) (o o' : List ℕ) (b : BadLine) → ((line k : ℕ) → m ≡ asked.Refused line k → number_of (refusal_at k) ≡ k)
    → Moves m o (Err b) o' → (o' ≡ o) × (bad_answer b.line (number_of b.refusal) ≡ move_answer m o)
moved_bad (asked.Refused k j) o o' b row w =
    let a = w.answer in
    let q : b ≡ record { line = k; refusal = refusal_at j } = cc in
    (w.written, rw (q, row k j refl))
moved_bad (asked.Text t) o o' b row w = by (leb (length t) (length o)) w.answer w.written
  where
    by : (x : Bool) → ◌≡◌ {A = Result ℕ BadLine} (Err b) (cond x (Ok (length t)) (Err (record { line = 0; refusal = refusal_at 20 })))
        → o' ≡ cond x (overlaid o 0 t) o → (o' ≡ o) × (bad_answer b.line (number_of b.refusal) ≡ cond x t (bad_answer 0 20))
    by true a c = cc
    by false a c =
        let q : b ≡ record { line = 0; refusal = refusal_at 20 } = cc in
        (c, rw (q, short_row))

module _ (text o o' : List ℕ) (b : BadLine) where
  pub forth_bad : Moves (asked.forth text) o (Err b) o' → (o' ≡ o) × (bad_answer b.line (number_of b.refusal) ≡ move_answer (asked.forth text) o)
  forth_bad w = moved_bad (asked.forth text) o o' b (λ line k e. move_row One Two (λ s. some (asked.raised s)) text line k e) w

  pub back_bad : Moves (asked.back text) o (Err b) o' → (o' ≡ o) × (bad_answer b.line (number_of b.refusal) ≡ move_answer (asked.back text) o)
  back_bad w = moved_bad (asked.back text) o o' b (λ line k e. move_row Two One asked.lowered text line k e) w
