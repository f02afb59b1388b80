-- What a header's bytes tell, and the ways in which a header call ends: each test that fails makes `is_header` false.
use native.Mathlib.Omega.{arith}
use mathlib.Core.Path.{◌≡◌, refl, sym, ap, ◌∙◌}
use mathlib.Core.Bool.{Bool, true, false, not, cond, ◌&&◌}
use mathlib.Core.List.{List, [], ◌∷◌, ◌++◌}
use Prim.Native.Nat.{ℕ, ◌+◌, ◌-◌, ◌%◌, ◌≤◌, ◌<◌}
use lib.Dec.{leb, eqb}
use lib.ListN.{length, take, drop, length-take}
use lib.Pointwise.{pointwise}
use Rattle.std.specs.Array.{IsFirstChunk}
use Rattle.std.proofs.lemmas.List.{drop-take, take-take}
use borrow.Author.Tests.{eq-eqb, ne_eqb, leb-true, eqb-true}
use Rattle.text.specs.Same.{same}
use Rattle.text.specs.Writing.{overlaid}
use Rattle.text.proofs.Sameness.{same_eq}
use Rattle.std.specs.Int.{w32, to_le_bytes}
use Rattle.wav.specs.Bytes.{little, little_in}
use Rattle.wav.specs.Header.{header_of, may_be, rate_in, size_in, is_header, made_of, tells, head_of}
use Rattle.std.specs.Prelude.{Result, Ok, Err}
use Rattle.blocks.specs.declared.refusal.Refusal.{Refusal}

pub header_length : (rate size : ℕ) → length (header_of rate size) ≡ 44
unfolding header_of
header_length rate size = refl

-- four elements of a list at a time
fours : {a b c d p q r s : ℕ} {l k : List ℕ} → a ≡ p → b ≡ q → c ≡ r → d ≡ s → l ≡ k
    → ◌≡◌ {A = List ℕ} (a ∷ b ∷ c ∷ d ∷ l) (p ∷ q ∷ r ∷ s ∷ k)
fours e f g h i = cc

-- a number's bytes as the library's method gives them
pub le_bytes : (n : ℕ) → to_le_bytes w32 n ≡ little 4 n
le_bytes n = fours refl refl (omega arith) (omega arith) refl

-- four bytes of a file's first 44, where they are looked for in these alone
pub four_in : (h bs : List ℕ) (at : ℕ) → IsFirstChunk bs h 44 → at + 4 ≤ 44 → take 4 (drop at h) ≡ take 4 (drop at bs)
four_in h bs at f k =
    let n : 44 ≡ at + (44 - at) = omega arith in
    let m : 4 ≤ 44 - at = omega arith in
    ap (λ (l : List ℕ). take 4 (drop at l)) (f.same ∙ ap (λ (j : ℕ). take j bs) n)
    ∙ ap (take 4) (drop-take at (44 - at) bs) ∙ take-take 4 (44 - at) (drop at bs) m

-- the library's test of equal lists
pub same_test : (l k : List ℕ) → pointwise eqb l k ≡ same l k
unfolding same
same_test [] [] = refl
same_test [] (b ∷ k) = refl
same_test (a ∷ l) [] = refl
same_test (a ∷ l) (b ∷ k) = by (eqb a b) refl (same_test l k)
  where
    by : (t : Bool) → eqb a b ≡ t → pointwise eqb l k ≡ same l k → pointwise eqb (a ∷ l) (b ∷ k) ≡ cond (eqb a b) (same l k) false
    by true e f = rw (e, f)
    by false e f = rw e

-- what a header's maker tells
module _ (rate size : ℕ) where
  pub made_ok : (m : List ℕ) → ◌≡◌ {A = Result (List ℕ) Refusal} (Ok m) (made_of rate size) → (may_be rate size ≡ true) × (m ≡ header_of rate size)
  made_ok m e = by (may_be rate size) refl e
    where
      by : (t : Bool) → may_be rate size ≡ t → ◌≡◌ {A = Result (List ℕ) Refusal} (Ok m) (cond t (Ok (header_of rate size)) (Err Refusal.FileForm))
          → (may_be rate size ≡ true) × (m ≡ header_of rate size)
      by true f g = let h : m ≡ header_of rate size = cc in (f, h)
      by false f g = cc

  pub made_err : (r : Refusal) → ◌≡◌ {A = Result (List ℕ) Refusal} (Err r) (made_of rate size) → (may_be rate size ≡ false) × (r ≡ Refusal.FileForm)
  made_err r e = by (may_be rate size) refl e
    where
      by : (t : Bool) → may_be rate size ≡ t → ◌≡◌ {A = Result (List ℕ) Refusal} (Err r) (cond t (Ok (header_of rate size)) (Err Refusal.FileForm))
          → (may_be rate size ≡ false) × (r ≡ Refusal.FileForm)
      by true f g = cc
      by false f g = let h : r ≡ Refusal.FileForm = cc in (f, h)

and_false : (a : Bool) → (a && false) ≡ false
and_false true = refl
and_false false = refl

flipped : (a t : Bool) → t ≡ not a → a ≡ not t
flipped true t e = sym (ap not e)
flipped false t e = sym (ap not e)

-- reading
module _ (bs : List ℕ) (len : ℕ) where
  refused : is_header bs len ≡ false → Err Refusal.FileForm ≡ head_of bs len
  refused h = sym (rw h)

  pub short : length bs < 44 → Err Refusal.FileForm ≡ head_of bs len
  unfolding is_header
  short h = by (same (take 44 bs) (header_of (rate_in bs) (size_in bs))) refl
    where
      by : (t : Bool) → same (take 44 bs) (header_of (rate_in bs) (size_in bs)) ≡ t → Err Refusal.FileForm ≡ head_of bs len
      by true e =
          let k = ap length (same_eq _ _ e) ∙ header_length (rate_in bs) (size_in bs) in
          absurd (omega (arith, k, length-take 44 bs))
      by false e = refused (rw (e, and_false, and_false))

  -- h holds the first 44 bytes, and rate and size are told there
  module _ (h : List ℕ) (rate size : ℕ) (f : IsFirstChunk bs h 44) (er : rate ≡ rate_in h) (es : size ≡ size_in h) where
    rate_read : rate ≡ rate_in bs
    rate_read = er ∙ ap little_in (four_in h bs 24 f (omega arith))

    size_read : size ≡ size_in bs
    size_read = es ∙ ap little_in (four_in h bs 40 f (omega arith))

    pub cannot_be : (r : Refusal) → ◌≡◌ {A = Result (List ℕ) Refusal} (Err r) (made_of rate size) → Err r ≡ head_of bs len
    unfolding is_header
    cannot_be r e =
        let g = made_err rate size r e in
        let k : may_be (rate_in bs) (size_in bs) ≡ false = rw (rate_read, size_read) at g.0 in
        ap (λ (q : Refusal). Err q) g.1 ∙ refused (rw k)

    pub wrong_length : (len ≡ 44 + size → ⊥) → Err Refusal.FileForm ≡ head_of bs len
    unfolding is_header
    wrong_length n =
        let k : eqb len (44 + size_in bs) ≡ false = ne_eqb _ _ (λ e. n (e ∙ ap (λ (n : ℕ). 44 + n) (sym size_read))) in
        refused (rw (k, and_false))

    -- what is made of them, and the test of h against it
    module _ (m : List ℕ) (made : ◌≡◌ {A = Result (List ℕ) Refusal} (Ok m) (made_of rate size)) where
      tested : (t : Bool) → t ≡ not (pointwise eqb h m) → same (take 44 bs) (header_of (rate_in bs) (size_in bs)) ≡ not t
      tested t e =
          let g = made_ok rate size m made in
          let p = e ∙ ap not (same_test h m) in
          rw (← rate_read, ← size_read, ← g.1, ← f.same) (flipped (same h m) t p)

      pub unlike : true ≡ not (pointwise eqb h m) → Err Refusal.FileForm ≡ head_of bs len
      unfolding is_header
      unlike e = refused (rw (tested true e, and_false, and_false))

      pub right : len ≡ 44 + size → false ≡ not (pointwise eqb h m) → tells rate size ≡ head_of bs len
      unfolding is_header
      right l e =
          let k : may_be (rate_in bs) (size_in bs) ≡ true = rw (rate_read, size_read) at (made_ok rate size m made).0 in
          let n : eqb len (44 + size_in bs) ≡ true = eq-eqb _ _ (l ∙ ap (λ (n : ℕ). 44 + n) size_read) in
          rw (rate_read, size_read) (sym (rw (k, n, tested false e)))

-- the ranges of a rate and a size that may be
pub record Ranges (rate size : ℕ) : Type 0 where
  pub rates : rate ≤ 2147483647
  pub sizes : size ≤ 2147483000
  pub even : size % 2 ≡ 0

pub ranges : (rate size : ℕ) → may_be rate size ≡ true → Ranges rate size
unfolding may_be
ranges rate size h = by (leb rate 2147483647) refl (leb size 2147483000) refl (eqb (size % 2) 0) refl h
  where
    by : (t : Bool) → leb rate 2147483647 ≡ t → (u : Bool) → leb size 2147483000 ≡ u → (v : Bool) → eqb (size % 2) 0 ≡ v
        → (t && (u && v)) ≡ true → Ranges rate size
    by true e true f true g k = record { rates = leb-true _ _ e; sizes = leb-true _ _ f; even = eqb-true _ _ g }
    by true e true f false g k = absurd (let z : ◌≡◌ {A = ℕ} 0 1 = cc in omega arith)
    by true e false f v g k = absurd (let z : ◌≡◌ {A = ℕ} 0 1 = cc in omega arith)
    by false e u f v g k = absurd (let z : ◌≡◌ {A = ℕ} 0 1 = cc in omega arith)

pub put_front : (out bs : List ℕ) → overlaid out 0 bs ≡ bs ++ drop (length bs) out
unfolding overlaid
put_front out bs = let z : 0 + length bs ≡ length bs = omega arith in rw z
