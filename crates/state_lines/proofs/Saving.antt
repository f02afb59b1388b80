-- A state's line reads back word by word, so it is taken, and what it tells is resumed.
use native.Mathlib.Omega.{arith}
use mathlib.Core.Path.{◌≡◌, refl, sym, ap, ◌∙◌}
use mathlib.Core.Bool.{true, false}
use mathlib.Core.List.{List, [], ◌∷◌, ◌++◌, map, append_assoc}
use Prim.Native.Nat.{ℕ, suc, ◌+◌, ◌*◌, ◌^◌, ◌<◌}
use lib.IntN.{ℤ, pos}
use lib.ListN.{length, take, drop, get_or, length-append, length-map}
use lib.Seq.{take_at, drop_at, drop-drop, get_or-append-add}
use mir.Syntax.{w64}
use borrow.Author.Tests.{eq-eqb}
use Rattle.words.specs.Words.{word, wrap}
use Rattle.words.proofs.Reading.{word_fits, wrap-word}
use Rattle.text.specs.Letters.{newline}
use Rattle.std.specs.Prelude.{Result, Ok, Some, None}
use Rattle.blocks.specs.declared.refusal.Refusal.{Refusal}
use Rattle.blocks.specs.Refusals.{answer}
use Rattle.blocks.proofs.Refusals.{taken_number}
use Rattle.sums.specs.Calls.{resume_number}
use Rattle.sums.specs.Counted.{resume_counted}
use Rattle.cic.specs.Answers.{made_of}
use Rattle.cic.specs.declared.state.Cic.{Cic}
use Rattle.recorder.specs.Calls.{word_ops, push_number, pushed_of}
use Rattle.recorder.specs.declared.recorder.Recorder.{Recorder}
use Rattle.desk.specs.Saved.{next_check, check_from, pattern_at, value_of, word_at, words_at, any_wrong, cells_at, resumed_by, state_loaded, load_of}
use Rattle.desk.proofs.Words.{state_is}
use Rattle.hex_letters.specs.Letters.{letters_of}
use Rattle.hex_letters.proofs.Spelling.{long, letters-again}
use Rattle.state_lines.specs.States.{state_words, spelled, state_line}
use Rattle.state_lines.specs.Laws.{Held, SavedResumes}
use Rattle.state_lines.proofs.Cells.{spelled_parts, spelled-one, spelled-long, state-long}

-- words of 64 bits
unfoldable pub Small : List ℕ → Type 0
Small [] = Unit
Small (w ∷ ws) = (w < 2 ^ 64) × Small ws

small_parts : (xs ys : List ℕ) → Small xs → Small ys → Small (xs ++ ys)
unfolding Small
small_parts [] ys p q = q
small_parts (x ∷ xs) ys p q = (p.0, small_parts xs ys p.1 q)

small-cells : (cells : List ℤ) → Small (map (word w64) cells)
unfolding Small
small-cells [] = tt
small-cells (z ∷ zs) = ((word_fits w64 z).fits, small-cells zs)

small_check : (c : ℕ) (ws : List ℕ) → c < 2 ^ 64 → check_from c ws < 2 ^ 64
unfolding check_from
small_check c [] h = h
small_check c (w ∷ ws) h = small_check (next_check c w) ws (word_fits w64 _).fits

-- the words that stand from word i on
pub record Stands (line : List ℕ) (i : ℕ) (ws rest : List ℕ) : Type 0 where
  pub from : drop (16 * i + 1) line ≡ spelled ws ++ rest
  pub small : Small ws

module _ (line : List ℕ) (i w : ℕ) (ws rest : List ℕ) (s : Stands line i (w ∷ ws) rest) where
  digits : drop (16 * i + 1) line ≡ letters_of 16 w ++ (spelled ws ++ rest)
  unfolding spelled
  digits = s.from ∙ append_assoc (letters_of 16 w) (spelled ws) rest

  first_is : pattern_at line i ≡ Some w
  unfolding Small
  first_is =
      let t : take 16 (drop (16 * i + 1) line) ≡ letters_of 16 w = ap (take 16) digits ∙ take_at (letters_of 16 w) (spelled ws ++ rest) 16 (long 16 w) in
      rw (t, long 16 w) (letters-again 16 0 w s.small.0 ∙ ap Some (omega arith))

  others : Stands line (suc i) ws rest
  unfolding Small
  others =
      let n : 16 * i + 1 + 16 ≡ 16 * suc i + 1 = omega arith in
      record {
        from = ap (λ (k : ℕ). drop k line) (sym n) ∙ sym (drop-drop 16 (16 * i + 1) line) ∙ ap (drop 16) digits
            ∙ drop_at (letters_of 16 w) (spelled ws ++ rest) 16 (long 16 w);
        small = s.small.1;
      }

words_are : (line : List ℕ) (i : ℕ) (ws rest : List ℕ) → Stands line i ws rest → words_at line i (length ws) ≡ ws
unfolding words_at
words_are line i [] rest s = refl
words_are line i (w ∷ ws) rest s = rw (first_is line i w ws rest s, words_are line (suc i) ws rest (others line i w ws rest s))

none_wrong : (line : List ℕ) (i : ℕ) (ws rest : List ℕ) → Stands line i ws rest → any_wrong line i (length ws) ≡ false
unfolding any_wrong
none_wrong line i [] rest s = refl
none_wrong line i (w ∷ ws) rest s = rw (first_is line i w ws rest s, none_wrong line (suc i) ws rest (others line i w ws rest s))

beyond : (line : List ℕ) (i : ℕ) (xs ys rest : List ℕ) → Stands line i (xs ++ ys) rest → Stands line (length xs + i) ys rest
beyond line i [] ys rest s = let n : 0 + i ≡ i = omega arith in rw n s
beyond line i (x ∷ xs) ys rest s =
    let n : suc (length xs) + i ≡ length xs + suc i = omega arith in
    rw n (beyond line (suc i) xs ys rest (others line i x (xs ++ ys) rest s))

before : (line : List ℕ) (i : ℕ) (xs ys rest : List ℕ) → Stands line i (xs ++ ys) rest → Small xs → Stands line i xs (spelled ys ++ rest)
before line i xs ys rest s p = record { from = s.from ∙ rw (spelled_parts xs ys) (append_assoc (spelled xs) (spelled ys) rest); small = p }

-- cells as words, read back
cells-again : (cells : List ℤ) → map (wrap w64) cells ≡ cells → map (λ (v : ℕ). wrap w64 (pos v)) (map (word w64) cells) ≡ cells
cells-again cells h = same cells ∙ h
  where
    same : (zs : List ℤ) → map (λ (v : ℕ). wrap w64 (pos v)) (map (word w64) zs) ≡ map (wrap w64) zs
    same [] = refl
    same (z ∷ zs) = rw (wrap-word w64 z, same zs)

-- a line is taken where each test goes well
accepted : (line : List ℕ) → length line ≡ 1282 → get_or line 1281 0 ≡ newline → any_wrong line 0 80 ≡ false
    → word_at line 79 ≡ check_from 1 (words_at line 0 79) → load_of line ≡ state_loaded line
unfolding load_of
accepted line l e w k =
    rw (eq-eqb (length line) 1282 l, eq-eqb (get_or line 1281 0) newline e, w, eq-eqb (word_at line 79) (check_from 1 (words_at line 0 79)) k)

-- The line of a state that is held.
module _ (s : Recorder) (h : Held s) where
  abbrev f : Cic ℤ
  f = s.filter

  abbrev head : List ℕ
  head = f.order ∷ f.delay ∷ f.rate ∷ f.countdown ∷ f.inputs ∷ word w64 f.hold ∷ word w64 s.turns.y ∷ []

  abbrev ints : List ℕ
  ints = map (word w64) f.integrators

  abbrev cells : List ℕ
  cells = map (word w64) f.combs

  abbrev check : ℕ
  check = check_from 1 (state_words s)

  abbrev line : List ℕ
  line = state_line s

  small_head : Small head
  unfolding Small
  small_head =
      let r = h.rate in
      let c = h.countdown in
      (h.order, (h.delay, (omega arith, (omega arith, (h.inputs, ((word_fits w64 f.hold).fits, ((word_fits w64 s.turns.y).fits, tt)))))))

  small_words : Small (state_words s)
  small_words = small_parts head (ints ++ cells) small_head (small_parts ints cells (small-cells f.integrators) (small-cells f.combs))

  stands : Stands line 0 (state_words s ++ (check ∷ [])) (newline ∷ [])
  unfolding state_line Small
  stands = record {
    from = sym (rw (spelled_parts (state_words s) (check ∷ []), spelled-one check));
    small = small_parts (state_words s) (check ∷ []) small_words (small_check 1 (state_words s) (omega arith), tt);
  }

  ints_long : length ints ≡ 8
  ints_long = length-map f.integrators (word w64) ∙ h.contents.long8

  cells-long : length cells ≡ 64
  cells-long = length-map f.combs (word w64) ∙ h.contents.long64

  words_long : length (state_words s) ≡ 79
  words_long = omega (arith, length-append ints cells, ints_long, cells-long)

  all_long : length (state_words s ++ (check ∷ [])) ≡ 80
  all_long = length-append (state_words s) (check ∷ []) ∙ omega (arith, words_long)

  line-long : length line ≡ 1282
  line-long = state-long s h.contents.long8 h.contents.long64

  line-ends : get_or line 1281 0 ≡ newline
  unfolding state_line
  line-ends =
      let p = spelled (state_words s) ++ letters_of 16 check in
      let n : length p + 0 ≡ 1280 = omega (arith, length-append (spelled (state_words s)) (letters_of 16 check), spelled-long (state_words s), words_long, long 16 check) in
      ap (λ (k : ℕ). get_or (p ++ (newline ∷ [])) k 0) (sym n) ∙ get_or-append-add p (newline ∷ []) 0 0

  digits_right : any_wrong line 0 80 ≡ false
  digits_right = rw all_long at (none_wrong line 0 (state_words s ++ (check ∷ [])) (newline ∷ []) stands)

  words_right : words_at line 0 79 ≡ state_words s
  words_right = rw words_long at (words_are line 0 (state_words s) _ (before line 0 (state_words s) (check ∷ []) (newline ∷ []) stands small_words))

  check_right : word_at line 79 ≡ check
  unfolding Small
  check_right =
      let n : length (state_words s) + 0 ≡ 79 = omega (arith, words_long) in
      let b : Stands line 79 (check ∷ []) (newline ∷ []) = rw n at (beyond line 0 (state_words s) (check ∷ []) (newline ∷ []) stands) in
      ap value_of (first_is line 79 check [] (newline ∷ []) b)

  -- the words by their meaning
  head_right : words_at line 0 7 ≡ head
  head_right =
      let b : Stands line 0 (head ++ ((ints ++ cells) ++ (check ∷ []))) (newline ∷ []) = stands in
      words_are line 0 head _ (before line 0 head ((ints ++ cells) ++ (check ∷ [])) (newline ∷ []) b small_head)

  after_head : Stands line 7 (ints ++ (cells ++ (check ∷ []))) (newline ∷ [])
  after_head = rw append_assoc at (beyond line 0 head ((ints ++ cells) ++ (check ∷ [])) (newline ∷ []) stands)

  ints_right : cells_at line 7 8 ≡ f.integrators
  ints_right =
      let b = words_are line 7 ints _ (before line 7 ints (cells ++ (check ∷ [])) (newline ∷ []) after_head (small-cells f.integrators)) in
      let w : words_at line 7 8 ≡ ints = rw ints_long at b in
      rw w (cells-again f.integrators h.integrators)

  cells_right : cells_at line 15 64 ≡ f.combs
  cells_right =
      let n : length ints + 7 ≡ 15 = omega (arith, ints_long) in
      let a : Stands line 15 (cells ++ (check ∷ [])) (newline ∷ []) = rw n at (beyond line 7 ints (cells ++ (check ∷ [])) (newline ∷ []) after_head) in
      let b = words_are line 15 cells _ (before line 15 cells (check ∷ []) (newline ∷ []) a (small-cells f.combs)) in
      let w : words_at line 15 64 ≡ cells = rw cells-long at b in
      rw w (cells-again f.combs h.combs)

  -- what the words tell
  abbrev made : Result (Cic ℤ) Refusal
  made = made_of (resume_number f.order f.delay f.rate f.countdown)
      (resume_counted word_ops f.order f.delay f.rate f.integrators f.combs f.hold f.countdown f.inputs)

  head_words_law : (a b c d e g k : ℕ) → a ∷ b ∷ c ∷ d ∷ e ∷ g ∷ k ∷ [] ≡ head
      → (a ≡ f.order) × (b ≡ f.delay) × (c ≡ f.rate) × (d ≡ f.countdown) × (e ≡ f.inputs) × (g ≡ word w64 f.hold) × (k ≡ word w64 s.turns.y)
  head_words_law a b c d e g k q = (cc, cc, cc, cc, cc, cc, cc)

  head_is : (word_at line 0 ≡ f.order) × (word_at line 1 ≡ f.delay) × (word_at line 2 ≡ f.rate) × (word_at line 3 ≡ f.countdown)
      × (word_at line 4 ≡ f.inputs) × (word_at line 5 ≡ word w64 f.hold) × (word_at line 6 ≡ word w64 s.turns.y)
  unfolding words_at
  head_is = head_words_law (word_at line 0) (word_at line 1) (word_at line 2) (word_at line 3) (word_at line 4) (word_at line 5) (word_at line 6) head_right

  loaded : load_of line ≡ resumed_by s.turns made
  loaded =
      let q = head_is in
      let r = h.rate in
      let c = h.countdown in
      let hold : wrap w64 (pos (word_at line 5)) ≡ f.hold = ap (λ (n : ℕ). wrap w64 (pos n)) q.5 ∙ wrap-word w64 f.hold ∙ h.hold in
      let y : wrap w64 (pos (word_at line 6)) ≡ s.turns.y = ap (λ (n : ℕ). wrap w64 (pos n)) q.6 ∙ wrap-word w64 s.turns.y ∙ h.turns in
      accepted line line-long line-ends digits_right (check_right ∙ ap (check_from 1) (sym words_right))
      ∙ sym (state_is line f.order f.delay f.rate f.countdown f.inputs f.hold s.turns.y f.integrators f.combs made
      (resumed_by s.turns made) (sym q.0) (sym q.1) (sym q.2) (sym q.3) (sym q.4) (sym hold) (sym y) (sym ints_right)
      (sym cells_right) (omega arith) (omega arith) refl refl)

-- a push that is done has the same answer either way
resumed_done : (s : Recorder) (h : Held s) → push_number s ≡ 0 → resumed_by s.turns (made s h) ≡ Ok (pushed_of s)
unfolding pushed_of answer
resumed_done s h z = rw z refl

pub saved_resumes : SavedResumes
saved_resumes s h d = loaded s h ∙ resumed_done s h (taken_number (push_number s) tt tt (sym d))
