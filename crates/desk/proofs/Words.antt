-- The words of a state's line, one after the other.
use mathlib.Core.Path.{◌≡◌, refl, sym, ap, subst, ◌∙◌}
use mathlib.Core.Bool.{true, false, ◌||◌}
use mathlib.Core.List.{List, [], ◌∷◌}
use Prim.Native.Nat.{ℕ, suc, ◌+◌, ◌-◌, ◌≤◌, ◌<◌}
use native.Mathlib.Numerals.{add-one}
use native.Mathlib.Omega.{arith}
use lib.IntN.{ℤ, pos}
use lib.ListN.{length, set}
use mir.Syntax.{w64}
use Rattle.words.specs.Words.{wrap}
use Rattle.blocks.specs.Scan.{scan}
use Rattle.blocks.proofs.Turns.{Going, turn, done}
use Rattle.std.specs.Prelude as std
use Rattle.std.specs.Prelude.{Some, None}
use Rattle.sums.specs.Calls.{resume_number}
use Rattle.sums.specs.Counted.{resume_counted}
use Rattle.cic.specs.Answers.{made_of}
use Rattle.std.specs.Prelude.{Result}
use Rattle.blocks.specs.declared.refusal.Refusal.{Refusal}
use Rattle.cic.specs.declared.state.Cic.{Cic}
use Rattle.recorder.specs.Calls.{word_ops}
use Rattle.recorder.specs.declared.recorder.Recorder.{Recorder}
use borrow.Author.Tests.{le-ltb}
use Rattle.desk.specs.Saved.{next_check, check_from, pattern_at, is_wrong, word_at, words_at, any_wrong, cells_at, resumed_by, state_loaded}

pub check_on : (line : List ℕ) (i c : ℕ) → i < 79
    → check_from c (words_at line i (79 - i)) ≡ check_from (next_check c (word_at line i)) (words_at line (i + 1) (79 - (i + 1)))
unfolding check_from words_at
check_on line i c h =
    let e : 79 - i ≡ suc (79 - (i + 1)) = omega arith in
    ap (λ (k : ℕ). check_from c (words_at line i k)) e
    ∙ ap (λ (j : ℕ). check_from (next_check c (word_at line i)) (words_at line j (79 - (i + 1)))) (sym (add-one i))

pub check_end : (line : List ℕ) (i c : ℕ) → 79 ≤ i → check_from c (words_at line i (79 - i)) ≡ c
unfolding check_from words_at
check_end line i c h = let e : 79 - i ≡ 0 = omega arith in ap (λ (k : ℕ). check_from c (words_at line i k)) e

pub wrong_on : (line : List ℕ) (i v : ℕ) → i < 80 → pattern_at line i ≡ Some v
    → any_wrong line i (80 - i) ≡ any_wrong line (i + 1) (80 - (i + 1))
unfolding any_wrong
wrong_on line i v h p =
    let e : 80 - i ≡ suc (80 - (i + 1)) = omega arith in
    ap (λ (k : ℕ). any_wrong line i k) e
    ∙ ap (λ (q : std.Option ℕ). is_wrong q || any_wrong line (suc i) (80 - (i + 1))) p
    ∙ ap (λ (j : ℕ). any_wrong line j (80 - (i + 1))) (sym (add-one i))

pub wrong_found : (line : List ℕ) (i : ℕ) → i < 80 → pattern_at line i ≡ None → any_wrong line i (80 - i) ≡ true
unfolding any_wrong
wrong_found line i h p =
    let e : 80 - i ≡ suc (80 - (i + 1)) = omega arith in
    ap (λ (k : ℕ). any_wrong line i k) e ∙ ap (λ (q : std.Option ℕ). is_wrong q || any_wrong line (suc i) (80 - (i + 1))) p

pub wrong_end : (line : List ℕ) (i : ℕ) → 80 ≤ i → any_wrong line i (80 - i) ≡ false
unfolding any_wrong
wrong_end line i h = let e : 80 - i ≡ 0 = omega arith in ap (λ (k : ℕ). any_wrong line i k) e

-- cells written one after the other (blocks Turns): cell i is word first + i
abbrev pub cell_out : List ℕ → ℕ → ℤ → ℤ
cell_out line j x = wrap w64 (pos (word_at line j))

abbrev pub cell_next : ℕ → ℤ → ℕ
cell_next j x = suc j

cells_are : (line : List ℕ) (j : ℕ) (xs : List ℤ) → scan (cell_out line) cell_next j xs ≡ cells_at line j (length xs)
unfolding words_at
cells_are line j [] = refl
cells_are line j (x ∷ xs) = ap (λ (l : List ℤ). wrap w64 (pos (word_at line j)) ∷ l) (cells_are line (suc j) xs)

pub cell_turn : (line : List ℕ) (first : ℕ) (xs ys : List ℤ) (i : ℕ) (v : ℤ) → i < length xs → v ≡ wrap w64 (pos (word_at line (i + first)))
    → Going (cell_out line) cell_next first xs ys (i + first) i
    → Going (cell_out line) cell_next first xs (set ys i v) (i + 1 + first) (i + 1)
cell_turn line first xs ys i v h e g =
    let t = turn (cell_out line) cell_next first xs ys (i + first) i (pos 0) h g in
    let n : suc (i + first) ≡ i + 1 + first = omega arith in
    subst (λ (s : ℕ). Going (cell_out line) cell_next first xs (set ys i v) s (i + 1)) n
    (subst (λ (w : ℤ). Going (cell_out line) cell_next first xs (set ys i w) (suc (i + first)) (i + 1)) (sym e) t)

pub cells_done : (line : List ℕ) (first n : ℕ) (xs ys : List ℤ) (i : ℕ) → length xs ≡ n → n ≤ i
    → Going (cell_out line) cell_next first xs ys (i + first) i → ys ≡ cells_at line first n
cells_done line first n xs ys i l h g =
    (done (cell_out line) cell_next first xs ys (i + first) i (omega arith) g).1 ∙ cells_are line first xs ∙ ap (cells_at line first) l

-- the state that the words tell
pub state_is : (line : List ℕ) (o d rate countdown n : ℕ) (hold y : ℤ) (is cs : List ℤ) (m : Result (Cic ℤ) Refusal) (r : Result Recorder Refusal)
    → o ≡ word_at line 0 → d ≡ word_at line 1 → rate ≡ word_at line 2 → countdown ≡ word_at line 3 → n ≡ word_at line 4
    → hold ≡ wrap w64 (pos (word_at line 5)) → y ≡ wrap w64 (pos (word_at line 6)) → is ≡ cells_at line 7 8 → cs ≡ cells_at line 15 64
    → rate ≤ 4294967295 → countdown ≤ 4294967295
    → m ≡ made_of (resume_number o d rate countdown) (resume_counted word_ops o d rate is cs hold countdown n)
    → r ≡ resumed_by (record { y = y }) m → r ≡ state_loaded line
unfolding state_loaded
state_is line o d rate countdown n hold y is cs m r eo ed er ec en eh ey ei es lr lc em e =
    e ∙ ap (resumed_by (record { y = y })) em
    ∙ rw (
      eo,
      ed,
      er,
      ec,
      en,
      eh,
      ey,
      ei,
      es,
      le-ltb 4294967295 (word_at line 2) (subst (λ (k : ℕ). k ≤ 4294967295) er lr),
      le-ltb 4294967295 (word_at line 3) (subst (λ (k : ℕ). k ≤ 4294967295) ec lc),
    )
