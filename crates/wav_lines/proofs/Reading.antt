-- A line's fields one after the other: what is cut off the rest of a line stands in the line where the definitions look for it.
use native.Mathlib.Omega.{arith}
use mathlib.Core.Path.{◌≡◌, refl, sym, ap, ◌∙◌}
use mathlib.Core.Bool.{Bool, true, false, cond}
use mathlib.Core.List.{List}
use Prim.Native.Nat.{ℕ, ◌+◌, ◌-◌, ◌≤◌, ◌<◌}
use lib.Dec.{ltb}
use lib.ListN.{length, take, drop, length-drop}
use Rattle.std.proofs.lemmas.List.{drop-drop, take_rest}
use borrow.Author.Tests.{lt-ltb, le-ltb, ltb-true, ltb-false}
use Rattle.text.specs.Parts.{before, count, end_of}
use Rattle.wav_lines.specs.Answers.{field_from, next_from, name_in, shaped_by, filled_in, line_in}
use Rattle.std.specs.Prelude.{Option, Some, None}
use Rattle.wav_lines.specs.declared.answers.Name.{Name}
use Rattle.wav_lines.specs.declared.answers.Line.{Line}

-- behind the tab that ends the first field
pub behind_tab : (f r : List ℕ) (e : ℕ) → e ≡ end_of 9 f 0 → r ≡ drop e f → 1 ≤ length r → take (length r - 1) (drop 1 r) ≡ drop (next_from f 0) f
behind_tab f r e p q h =
    let k : end_of 9 f 0 < length f = omega (arith, ap length q, length-drop e f) in
    rw (take_rest r 1, q, drop-drop 1 e f, lt-ltb _ _ k, p) refl

-- a field that starts at a place is the first of the rest from there
pub field_of : (l : List ℕ) (k : ℕ) → field_from (drop k l) 0 ≡ field_from l k
field_of l k =
    let n = length (before 9 (drop k l)) in
    let e : 0 + n - 0 ≡ k + n - k = omega arith in
    ap (λ (j : ℕ). take j (drop k l)) e

pub next_low : (l : List ℕ) (k : ℕ) → next_from l k ≤ length l
next_low l k = by (ltb (end_of 9 l k) (length l)) refl
  where
    by : (t : Bool) → ltb (end_of 9 l k) (length l) ≡ t → cond t (end_of 9 l k + 1) (length l) ≤ length l
    by true e = let h = ltb-true _ _ e in omega arith
    by false e = omega arith

-- and the fields behind it are the rest from where the next one starts
pub fields_of : (l : List ℕ) (k : ℕ) → k ≤ length l → drop (next_from (drop k l) 0) (drop k l) ≡ drop (next_from l k) l
fields_of l k h = drop-drop (next_from (drop k l) 0) k l ∙ ap (λ (j : ℕ). drop j l) (by (ltb (end_of 9 l k) (length l)) refl)
  where
    by : (t : Bool) → ltb (end_of 9 l k) (length l) ≡ t → k + next_from (drop k l) 0 ≡ cond t (end_of 9 l k + 1) (length l)
    by true e =
        let n : end_of 9 l k < length l = ltb-true _ _ e in
        let m : end_of 9 (drop k l) 0 < length (drop k l) = omega (arith, length-drop k l) in
        rw (lt-ltb _ _ m) (omega arith)
    by false e =
        let n : length l ≤ end_of 9 l k = ltb-false _ _ e in
        let m : length (drop k l) ≤ end_of 9 (drop k l) 0 = omega (arith, length-drop k l) in
        rw (le-ltb _ _ m) (omega (arith, length-drop k l))

module _ (l : List ℕ) (k : ℕ) (h : k ≤ length l) where
  pub second_of : field_from (drop k l) (next_from (drop k l) 0) ≡ field_from l (next_from l k)
  second_of =
      let r = drop k l in
      sym (field_of r (next_from r 0)) ∙ ap (λ (x : List ℕ). field_from x 0) (fields_of l k h) ∙ field_of l (next_from l k)

  pub third_of : field_from (drop k l) (next_from (drop k l) (next_from (drop k l) 0)) ≡ field_from l (next_from l (next_from l k))
  third_of =
      let r = drop k l in
      let n = next_from r 0 in
      let m = next_from l k in
      sym (field_of r (next_from r n))
      ∙ ap (λ (x : List ℕ). field_from x 0) (
      sym (fields_of r n (next_low r 0)) ∙ ap (λ (x : List ℕ). drop (next_from x 0) x) (fields_of l k h) ∙ fields_of l m (next_low l k))
      ∙ field_of l (next_from l m)

  -- so what a name's fields give may be looked for in the rest of the line
  pub filled_of : (name : Option Name) → filled_in name (drop k l) 0 ≡ filled_in name l k
  filled_of (Some Name.Y) = rw (field_of l k, second_of)
  filled_of (Some Name.End) = rw (field_of l k)
  filled_of (Some Name.Bad) = rw (field_of l k, second_of)
  filled_of (Some Name.Wav) = rw (field_of l k, second_of, third_of)
  filled_of None = refl

-- the third field, cut off as the first of the rest after two
pub third_cut : (f r : List ℕ) → r ≡ drop (next_from f 0) f → field_from (drop (next_from r 0) r) 0 ≡ field_from f (next_from f (next_from f 0))
third_cut f r e =
    let m = next_from f 0 in
    ap (λ (x : List ℕ). field_from (drop (next_from x 0) x) 0) e ∙ ap (λ (x : List ℕ). field_from x 0) (fields_of f m (next_low f 0))
    ∙ field_of f (next_from f m)

-- a line by its name
module _ (l first fields : List ℕ) (cut : first ≡ field_from l 0) (behind : fields ≡ drop (next_from l 0) l) where
  pub unnamed : ◌≡◌ {A = Option Name} None (name_in first) → ◌≡◌ {A = Option Line} None (line_in l)
  unfolding line_in
  unnamed e = let n = e ∙ ap name_in cut in rw (← n) refl

  module _ (name : Name) (tabs : ℕ) (named : ◌≡◌ {A = Option Name} (Some name) (name_in first)) (counted : tabs ≡ count 9 l) where
    pub misshapen : false ≡ shaped_by (Some name) tabs → ◌≡◌ {A = Option Line} None (line_in l)
    unfolding line_in
    misshapen s = let n = named ∙ ap name_in cut in rw (← n, ← counted, ← s) refl

    pub filled : (r : Option Line) → true ≡ shaped_by (Some name) tabs → r ≡ filled_in (Some name) fields 0 → r ≡ line_in l
    unfolding line_in
    filled r s e =
        let n = named ∙ ap name_in cut in
        rw (← n, ← counted, ← s) (e ∙ ap (λ (x : List ℕ). filled_in (Some name) x 0) behind ∙ filled_of l (next_from l 0) (next_low l 0) (Some name))
