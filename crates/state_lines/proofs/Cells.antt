-- Words spelled one behind the other, and the check value over them.
use native.Mathlib.Omega.{arith}
use native.Mathlib.Numerals.{add-one}
use mathlib.Core.Path.{◌≡◌, refl, sym, ap, ◌∙◌}
use mathlib.Core.List.{List, [], ◌∷◌, ◌++◌, map, append_assoc, append-nil}
use Prim.Native.Nat.{ℕ, zero, suc, ◌+◌, ◌*◌, ◌^◌, ◌≤◌, ◌<◌}
use lib.IntN.{ℤ, pos}
use lib.ListN.{length, take, get_or, length-append, length-map}
use lib.Seq.{take_all, take-suc, length-take-le}
use mir.Syntax.{w64}
use Rattle.words.specs.Words.{word, wrap}
use Rattle.words.proofs.Reading.{word_is, word-wrap}
use Rattle.text.specs.Writing.{Wrote, Puts}
use Rattle.text.proofs.Putting.{nothing, then, written, then_puts, wrote-same, wrote-length}
use Rattle.recorder.specs.declared.recorder.Recorder.{Recorder}
use Rattle.desk.specs.Saved.{next_check, check_from}
use Rattle.hex_letters.specs.Letters.{letters_of}
use Rattle.hex_letters.proofs.Spelling.{long}
use Rattle.state_lines.specs.States.{head_words, state_words, spelled, state_line}
use Rattle.state_lines.specs.Inner.{CellsPut, check_of, in_turn}
use Rattle.state_lines.specs.declared.WordsPut.{WordsPut}

pub spelled_parts : (xs ys : List ℕ) → spelled (xs ++ ys) ≡ spelled xs ++ spelled ys
unfolding spelled
spelled_parts [] ys = refl
spelled_parts (x ∷ xs) ys = rw (spelled_parts xs ys) (sym (append_assoc (letters_of 16 x) (spelled xs) (spelled ys)))

pub spelled-one : (w : ℕ) → spelled (w ∷ []) ≡ letters_of 16 w
unfolding spelled
spelled-one w = append-nil (letters_of 16 w)

pub spelled-long : (ws : List ℕ) → length (spelled ws) ≡ 16 * length ws
unfolding spelled
spelled-long [] = refl
spelled-long (w ∷ ws) = length-append (letters_of 16 w) (spelled ws) ∙ omega (arith, long 16 w, spelled-long ws)

pub check_parts : (c : ℕ) (xs ys : List ℕ) → check_from c (xs ++ ys) ≡ check_from (check_from c xs) ys
unfolding check_from
check_parts c [] ys = refl
check_parts c (x ∷ xs) ys = check_parts (next_check c x) xs ys

word_of : (cells : List ℤ) (i : ℕ) → i < length cells → get_or (map (word w64) cells) i 0 ≡ word w64 (get_or cells i (pos 0))
word_of [] i h = absurd (omega arith)
word_of (x ∷ xs) zero h = refl
word_of (x ∷ xs) (suc i) h = word_of xs i (omega arith)

-- The first i cells were put, and the check value went over them.
pub record Putting (o : List ℕ) (at : ℕ) (cells : List ℤ) (check next c i : ℕ) (o' : List ℕ) : Type 0 where
  pub within : i ≤ length cells
  pub room : at + 16 * length cells ≤ length o
  pub wrote : Wrote o at (spelled (take i (map (word w64) cells))) next o'
  pub long : length o' ≡ length o
  pub checked : c ≡ check_from check (take i (map (word w64) cells))

pub put-none : (o : List ℕ) (at : ℕ) (cells : List ℤ) (check : ℕ) → at + 16 * length cells ≤ length o → Putting o at cells check at check 0 o
unfolding spelled check_from
put-none o at cells check h = record { within = omega arith; room = h; wrote = nothing o at; long = refl; checked = refl }

module _ (o : List ℕ) (at : ℕ) (cells : List ℤ) (check next c i : ℕ) (o' : List ℕ) (p : Putting o at cells check next c i o') where
  whole_long : length (map (word w64) cells) ≡ length cells
  whole_long = length-map cells (word w64)

  so_long : length (spelled (take i (map (word w64) cells))) ≡ 16 * i
  so_long =
      spelled-long (take i (map (word w64) cells))
      ∙ ap (λ (n : ℕ). 16 * n) (length-take-le i (map (word w64) cells) (omega (arith, whole_long, p.within)))

  pub put_on : (x : ℤ) (w next' c' : ℕ) (o'' : List ℕ) → i < length cells → x ≡ get_or cells i (pos 0) → w ≡ word w64 x
      → Puts o' next (letters_of 16 w) next' o'' → c' ≡ next_check c w → Putting o at cells check next' c' (i + 1) o''
  unfolding check_from
  put_on x w next' c' o'' h e f q k =
      let ws = map (word w64) cells in
      let v : get_or ws i 0 ≡ w = word_of cells i h ∙ ap (word w64) (sym e) ∙ sym f in
      let t : take (i + 1) ws ≡ take i ws ++ (w ∷ []) = rw (add-one, ← v) (take-suc ws i 0 (omega (arith, whole_long))) in
      let s : spelled (take i ws) ++ letters_of 16 w ≡ spelled (take (i + 1) ws) = sym (rw (t, spelled_parts (take i ws) (w ∷ []), spelled-one w)) in
      let r : at + (length (spelled (take i ws)) + length (letters_of 16 w)) ≤ length o = omega (arith, so_long, long 16 w, p.room) in
      let a : Wrote o at (spelled (take i ws) ++ letters_of 16 w) next' o'' = then_puts r p.wrote q in
      record {
        within = omega arith;
        room = p.room;
        wrote = wrote-same s a;
        long = wrote-length (omega (arith, length-append (spelled (take i ws)) (letters_of 16 w))) a;
        checked = k ∙ rw (p.checked, t) (sym (check_parts check (take i ws) (w ∷ [])));
      }

  pub put_all : length cells ≤ i → Wrote o at (spelled (map (word w64) cells)) next o' × (c ≡ check_from check (map (word w64) cells))
  put_all h =
      let n : length (map (word w64) cells) ≤ i = omega (arith, whole_long) in
      let t : take i (map (word w64) cells) ≡ map (word w64) cells = take_all i (map (word w64) cells) n in
      (rw t at p.wrote, rw t at p.checked)

-- So many bytes were put.
pub record Part (o : List ℕ) (at n : ℕ) (bs : List ℕ) (next : ℕ) (o' : List ℕ) : Type 0 where
  pub wrote : Wrote o at bs next o'
  pub size : length bs ≡ n
  pub same : length o' ≡ length o

module _ (o : List ℕ) (at : ℕ) where
  pub part-first : (bs : List ℕ) (next : ℕ) (o' : List ℕ) → at + length bs ≤ length o → Puts o at bs next o' → Part o at (length bs) bs next o'
  part-first bs next o' h p =
      let w = written o at bs next o' h p in
      record { wrote = w; size = refl; same = wrote-length h w }

  module _ {n : ℕ} {bs : List ℕ} {next : ℕ} {o' : List ℕ} (p : Part o at n bs next o') where
    pub part_room : (m : ℕ) → at + (n + m) ≤ length o → next + m ≤ length o'
    part_room m h = omega (arith, p.wrote.next, p.size, p.same)

    pub part_puts : (ys : List ℕ) (r : ℕ) (o'' : List ℕ) → at + (n + length ys) ≤ length o → Puts o' next ys r o''
        → Part o at (n + length ys) (bs ++ ys) r o''
    part_puts ys r o'' h q =
        let w = then_puts (omega (arith, p.size)) p.wrote q in
        record {
          wrote = w;
          size = length-append bs ys ∙ omega (arith, p.size);
          same = wrote-length (omega (arith, length-append bs ys, p.size)) w;
        }

    pub part-cells : (cells : List ℤ) (k : ℕ) (q : WordsPut) (o'' : List ℕ) → at + (n + 16 * length cells) ≤ length o
        → CellsPut o' next cells k q o'' → Part o at (n + 16 * length cells) (bs ++ spelled (map (word w64) cells)) q.next o''
    part-cells cells k q o'' h r =
        let z = spelled-long (map (word w64) cells) in
        let l = length-map cells (word w64) in
        let w = then (omega arith) p.wrote r.wrote in
        let s : length (bs ++ spelled (map (word w64) cells)) ≡ n + 16 * length cells =
        length-append bs (spelled (map (word w64) cells)) ∙ omega (arith, p.size) in
        record { wrote = w; size = s; same = wrote-length (omega arith) w }

regroup : (a b c d e : List ℕ) → (((a ++ b) ++ c) ++ d) ++ e ≡ ((a ++ (b ++ c)) ++ d) ++ e
regroup a b c d e = simp append_assoc

-- the state's bytes, in the order in which they are put
pub line_is : (s : Recorder) (head : List ℤ) → map (word w64) head ≡ head_words s
    → in_turn head s.filter.integrators s.filter.combs ≡ state_line s
unfolding state_line in_turn
line_is s head e =
    let is = map (word w64) s.filter.integrators in
    let cs = map (word w64) s.filter.combs in
    let q : check_from (check_from (check_from 1 (head_words s)) is) cs ≡ check_from 1 (state_words s) =
    sym (check_parts 1 (head_words s) (is ++ cs) ∙ check_parts (check_from 1 (head_words s)) is cs) in
    rw (e, q, spelled_parts (head_words s) (is ++ cs), spelled_parts is cs)
    (ap (λ (l : List ℕ). 99 ∷ l) (regroup (spelled (head_words s)) (spelled is) (spelled cs) (letters_of 16 (check_from 1 (state_words s))) (10 ∷ [])))

-- the bytes of a line, put one behind the other
pub line-put : (o o₀ o₁ o₂ o₃ o₄ o₅ : List ℕ) (at first end r : ℕ) (head is cs : List ℤ) (a b c : WordsPut)
    → at + (18 + 16 * (length head + (length is + length cs))) ≤ length o → Puts o at (99 ∷ []) first o₀ → CellsPut o₀ first head 1 a o₁
    → CellsPut o₁ a.next is a.check b o₂ → CellsPut o₂ b.next cs b.check c o₃ → Puts o₃ c.next (letters_of 16 c.check) end o₄
    → Puts o₄ end (10 ∷ []) r o₅ → Wrote o at (in_turn head is cs) r o₅
unfolding in_turn
line-put o o₀ o₁ o₂ o₃ o₄ o₅ at first end r head is cs a b c h q0 q1 q2 q3 q4 q5 =
    let l = long 16 c.check in
    let p1 = part-first o at (99 ∷ []) first o₀ (omega arith) q0 in
    let p2 = part-cells o at p1 head 1 a o₁ (omega arith) q1 in
    let p3 = part-cells o at p2 is a.check b o₂ (omega arith) q2 in
    let p4 = part-cells o at p3 cs b.check c o₃ (omega arith) q3 in
    let p5 = part_puts o at p4 (letters_of 16 c.check) end o₄ (omega arith) q4 in
    let p6 = part_puts o at p5 (10 ∷ []) r o₅ (omega arith) q5 in
    let k : c.check ≡ check_of head is cs = q3.checked ∙ rw (q2.checked, q1.checked) in
    rw k at p6.wrote

-- and there is room for each run of words
pub room_1 : (o o₀ : List ℕ) (at first m n : ℕ) → at + (18 + 16 * (m + n)) ≤ length o → Puts o at (99 ∷ []) first o₀ → first + 16 * m ≤ length o₀
room_1 o o₀ at first m n h q0 = part_room o at (part-first o at (99 ∷ []) first o₀ (omega arith) q0) (16 * m) (omega arith)

pub room_2 : (o o₀ o₁ : List ℕ) (at first : ℕ) (head : List ℤ) (a : WordsPut) (m n : ℕ) → at + (18 + 16 * (length head + (m + n))) ≤ length o
    → Puts o at (99 ∷ []) first o₀ → CellsPut o₀ first head 1 a o₁ → a.next + 16 * m ≤ length o₁
room_2 o o₀ o₁ at first head a m n h q0 q1 =
    let p1 = part-first o at (99 ∷ []) first o₀ (omega arith) q0 in
    part_room o at (part-cells o at p1 head 1 a o₁ (omega arith) q1) (16 * m) (omega arith)

pub room_3 : (o o₀ o₁ o₂ : List ℕ) (at first : ℕ) (head is : List ℤ) (a b : WordsPut) (n : ℕ)
    → at + (18 + 16 * (length head + (length is + n))) ≤ length o → Puts o at (99 ∷ []) first o₀ → CellsPut o₀ first head 1 a o₁
    → CellsPut o₁ a.next is a.check b o₂ → b.next + 16 * n ≤ length o₂
room_3 o o₀ o₁ o₂ at first head is a b n h q0 q1 q2 =
    let p1 = part-first o at (99 ∷ []) first o₀ (omega arith) q0 in
    let p2 = part-cells o at p1 head 1 a o₁ (omega arith) q1 in
    part_room o at (part-cells o at p2 is a.check b o₂ (omega arith) q2) (16 * n) (omega arith)

pub state-long : (s : Recorder) → length s.filter.integrators ≡ 8 → length s.filter.combs ≡ 64 → length (state_line s) ≡ 1282
unfolding state_line
state-long s a b =
    let p = spelled (state_words s) in
    let k = check_from 1 (state_words s) in
    let is = map (word w64) s.filter.integrators in
    let cs = map (word w64) s.filter.combs in
    let n : length (state_words s) ≡ 79 = omega (arith, length-append is cs, length-map s.filter.integrators (word w64), length-map s.filter.combs (word w64)) in
    omega (arith, length-append (p ++ letters_of 16 k) (10 ∷ []), length-append p (letters_of 16 k), spelled-long (state_words s), long 16 k)

-- the head's cells, as the words that they stand for
pub head_cells : (s : Recorder) (a b c d e h y : ℤ) → a ≡ wrap w64 (pos s.filter.order) → b ≡ wrap w64 (pos s.filter.delay)
    → c ≡ wrap w64 (pos s.filter.rate) → d ≡ wrap w64 (pos s.filter.countdown) → e ≡ wrap w64 (pos s.filter.inputs)
    → h ≡ s.filter.hold → y ≡ s.turns.y → s.filter.order < 2 ^ 64 → s.filter.delay < 2 ^ 64 → s.filter.rate < 2 ^ 64
    → s.filter.countdown < 2 ^ 64 → s.filter.inputs < 2 ^ 64 → map (word w64) (a ∷ b ∷ c ∷ d ∷ e ∷ h ∷ y ∷ []) ≡ head_words s
head_cells s a b c d e h y ea eb ec ed ee eh ey fa fb fc fd fe =
    rw (ea, eb, ec, ed, ee, eh, ey, again s.filter.order fa, again s.filter.delay fb, again s.filter.rate fc, again s.filter.countdown fd, again s.filter.inputs fe)
  where
    again : (n : ℕ) → n < 2 ^ 64 → word w64 (wrap w64 (pos n)) ≡ n
    again n h = word-wrap w64 (pos n) ∙ word_is w64 n (record { fits = h })

pub head_long : (s : Recorder) (head : List ℤ) → map (word w64) head ≡ head_words s → length head ≡ 7
head_long s head e = sym (length-map head (word w64)) ∙ ap length e
