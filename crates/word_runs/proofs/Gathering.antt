-- Words gathered one after the other: those so far and those that the rest of the input gives are the whole.
use native.Mathlib.Omega.{arith}
use native.Mathlib.Numerals.{add-one}
use mathlib.Core.Path.{◌≡◌, refl, sym, ap, ◌∙◌}
use mathlib.Core.List.{List, [], ◌∷◌, ◌++◌, append_assoc, append-nil}
use mathlib.Core.Option.{Option, none, some}
use mathlib.Core.Bool.{Bool, true, false}
use Prim.Native.Nat.{ℕ, zero, suc, ◌+◌, ◌-◌, ◌*◌, ◌/◌, ◌≤◌, ◌<◌}
use lib.IntN.{ℤ}
use lib.ListN.{length, take, drop, set, length-set, length-take, length-drop, take-append-drop}
use lib.Seq.{take-suc-set, drop-set-lt, drop-drop, length-take-le}
use lib.Dec.{leb}
use borrow.Author.Tests.{ne_eqb, leb-true, leb-false}
use Rattle.desk.specs.Lines.{record_of}
use Rattle.hex_letters.specs.Letters.{letters_of}
use Rattle.word_runs.specs.Runs.{word_in, next_number, and_on, run_of}
use Rattle.word_runs.specs.Inner.{found_of}
use Rattle.word_runs.specs.declared.runs.Found.TheVariants.{Word, Other}

pub record Gathering (input : List ℕ) (number : ℕ) (before words : List ℤ) (head : List ℕ) (n at k : ℕ) : Type 0 where
  pub inside : at ≤ length input
  pub room : k ≤ length before
  pub long : length words ≡ length before
  pub letters : head ≡ letters_of 7 (n / 16)
  pub whole : run_of (length before) number input ≡ take k words ++ run_of (length before - k) n (drop at input)
  pub rest : drop k words ≡ drop k before

pub started : (input : List ℕ) (number : ℕ) (before : List ℤ) (head : List ℕ) → head ≡ letters_of 7 (number / 16)
    → Gathering input number before before head number 0 0
started input number before head e =
    let z : length before - 0 ≡ length before = omega arith in
    record { inside = omega arith; room = omega arith; long = refl; letters = e; whole = sym (rw z); rest = refl }

-- what ends the words
pub none-short : (m n at : ℕ) (input : List ℕ) → at ≤ length input → length input - at < 18 → run_of m n (drop at input) ≡ []
unfolding run_of record_of
none-short zero n at input i h = refl
none-short (suc m) n at input i h =
    let e : length (take 18 (drop at input)) ≡ 18 → ⊥ = λ q. let l : length (take 18 (drop at input)) < 18 = simp (length-take, length-drop) (omega arith) in omega arith in
    rw (ne_eqb (length (take 18 (drop at input))) 18 e)

pub none_other : (m n : ℕ) (rest : List ℕ) → found_of (word_in n (record_of (take 18 rest))) ≡ Other → run_of m n rest ≡ []
unfolding run_of
none_other zero n rest h = refl
none_other (suc m) n rest h = by (word_in n (record_of (take 18 rest))) h
  where
    by : (o : Option ℤ) → found_of o ≡ Other → and_on o (run_of m (next_number n) (drop 18 rest)) ≡ []
    by none e = refl
    by (some x) e = absurd (let z : ◌≡◌ {A = ℕ} 0 1 = cc in omega arith)

pub none_full : (m n : ℕ) (rest : List ℕ) → m ≡ 0 → run_of m n rest ≡ []
unfolding run_of
none_full zero n rest e = refl
none_full (suc m) n rest e = absurd (omega arith)

one_more_law : (m n : ℕ) (x : ℤ) (rest : List ℕ) → found_of (word_in n (record_of (take 18 rest))) ≡ Word x
    → run_of (suc m) n rest ≡ x ∷ run_of m (next_number n) (drop 18 rest)
unfolding run_of
one_more_law m n x rest h = by (word_in n (record_of (take 18 rest))) h
  where
    by : (o : Option ℤ) → found_of o ≡ Word x
        → and_on o (run_of m (next_number n) (drop 18 rest)) ≡ x ∷ run_of m (next_number n) (drop 18 rest)
    by none e = absurd (let z : ◌≡◌ {A = ℕ} 0 1 = cc in omega arith)
    by (some y) e = let q : y ≡ x = cc in rw q

module _ (input : List ℕ) (number : ℕ) (before words : List ℤ) (head : List ℕ) (n at k : ℕ) (g : Gathering input number before words head n at k) where
  pub gathered : run_of (length before - k) n (drop at input) ≡ []
      → (k ≡ length (run_of (length before) number input)) × (words ≡ run_of (length before) number input ++ drop k before)
  gathered e =
      let w : run_of (length before) number input ≡ take k words = g.whole ∙ rw e (append-nil (take k words)) in
      let l : length (take k words) ≡ k = length-take-le k words (omega arith) in
      (sym (ap length w ∙ l), rw (w, ← g.rest) (sym (take-append-drop k words)))

  pub gathered_on : (x : ℤ) (after : List ℕ) → k < length before → 18 ≤ length input - at
      → found_of (word_in n (record_of (take 18 (drop at input)))) ≡ Word x → after ≡ letters_of 7 (next_number n / 16)
      → Gathering input number before (set words k x) after (next_number n) (at + 18) (k + 1)
  gathered_on x after h i f e =
      let m : length before - k ≡ suc (length before - (k + 1)) = omega arith in
      let r = run_of (length before - (k + 1)) (next_number n) (drop (at + 18) input) in
      let a : run_of (length before - k) n (drop at input) ≡ x ∷ r =
      ap (λ (j : ℕ). run_of j n (drop at input)) m ∙ one_more_law (length before - (k + 1)) n x (drop at input) f ∙ rw (drop-drop 18 at input) in
      let t : take (k + 1) (set words k x) ≡ take k words ++ (x ∷ []) = rw add-one (take-suc-set words k x (omega (arith, g.long))) in
      let d : drop (k + 1) (set words k x) ≡ drop (k + 1) before =
      drop-set-lt (k + 1) words k x (omega arith) ∙ sym (drop-drop 1 k words) ∙ ap (drop 1) g.rest ∙ drop-drop 1 k before in
      record {
        inside = omega (arith, g.inside);
        room = omega arith;
        long = length-set words k x ∙ g.long;
        letters = e;
        whole = g.whole ∙ rw (a, t) (sym (append_assoc (take k words) (x ∷ []) r));
        rest = d;
      }

-- There are at most as many as were asked for, and each has its line in the input.
pub run-most : (m n : ℕ) (input : List ℕ) → length (run_of m n input) ≤ m
unfolding run_of
run-most zero n input = omega arith
run-most (suc m) n input = by (word_in n (record_of (take 18 input))) (run-most m (next_number n) (drop 18 input))
  where
    by : (o : Option ℤ) → length (run_of m (next_number n) (drop 18 input)) ≤ m → length (and_on o (run_of m (next_number n) (drop 18 input))) ≤ suc m
    by none h = omega arith
    by (some x) h = omega arith

pub run_fits : (m n : ℕ) (input : List ℕ) → 18 * length (run_of m n input) ≤ length input
unfolding run_of
run_fits zero n input = omega arith
run_fits (suc m) n input = by (leb 18 (length input)) refl (run_fits m (next_number n) (drop 18 input))
  where
    whole : (o : Option ℤ) → 18 ≤ length input → 18 * length (run_of m (next_number n) (drop 18 input)) ≤ length (drop 18 input)
        → 18 * length (and_on o (run_of m (next_number n) (drop 18 input))) ≤ length input
    whole none l h = omega arith
    whole (some x) l h = omega (arith, length-drop 18 input)

    by : (t : Bool) → leb 18 (length input) ≡ t → 18 * length (run_of m (next_number n) (drop 18 input)) ≤ length (drop 18 input)
        → 18 * length (run_of (suc m) n input) ≤ length input
    by true e h = whole (word_in n (record_of (take 18 input))) (leb-true 18 (length input) e) h
    by false e h =
        let l = leb-false 18 (length input) e in
        let z : run_of (suc m) n input ≡ [] = none-short (suc m) n 0 input (omega arith) (omega arith) in
        let y : length (run_of (suc m) n input) ≡ 0 = ap length z in
        omega arith
