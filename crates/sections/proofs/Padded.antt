-- How many cells a chain makes, and that sections of a nibble that is zero, behind the others, leave all as it is.
use mathlib.Core.Path.{◌≡◌, refl, ap, ◌∙◌}
use mathlib.Core.List.{List, [], ◌∷◌, ◌++◌, append_assoc}
use Prim.Native.Nat.{ℕ, zero, suc, ◌+◌, ◌/◌, ◌%◌, ◌^◌, ◌≤◌}
use native.Mathlib.Nat.{div-one, div-div-eq-div-mul, pow-succ'}
use native.Mathlib.Omega.{arith}
use lib.ListN.{length, take, drop, get_or, take-append-drop, length-append, length-drop}
use lib.Seq.{drop-drop}
use lib.IntN.{ℤ, pos}
use Rattle.blocks.specs.Scan.{scan, ends}
use Rattle.adapters.specs.Adapters.{adapted, code_of}
use Rattle.sections.specs.Sections.{Section, sections_of, Passed, passed, chain_answer, chain_next}

pub sections-length : (n m : ℕ) (cs zs : List ℤ) → length (sections_of n m cs zs) ≡ n
unfolding sections_of
sections-length zero m cs zs = refl
sections-length (suc n) m cs zs = ap suc (sections-length n _ _ _)

pub cells-length : (ss : List Section) (x : ℤ) → length (passed ss x).cells ≡ length ss
unfolding passed
cells-length [] x = refl
cells-length (s ∷ ss) x = ap suc (cells-length ss _)

-- a step keeps the count of the cells
next-length : (n m : ℕ) (cs zs : List ℤ) (x : ℤ) → n ≤ length zs → length (chain_next n m cs zs x) ≡ length zs
next-length n m cs zs x h =
    let l = cells-length (sections_of n m cs zs) x ∙ sections-length n m cs zs in simp (length-append, length-drop) (omega arith)

-- sections of zero leave all as it is
pub zeros : (k : ℕ) (cs zs : List ℤ) (x : ℤ) → k ≤ length zs → passed (sections_of k 0 cs zs) x ≡ record { back = x; cells = take k zs }
unfolding sections_of passed code_of adapted
zeros zero cs zs x h = refl
zeros (suc k) cs [] x h = absurd (omega arith)
zeros (suc k) cs (z ∷ zs) x h = rw (zeros k (drop 1 cs) zs z (omega arith))

padded : (n k m : ℕ) (cs zs : List ℤ) (x : ℤ) → m / 16 ^ n ≡ 0 → n + k ≤ length zs
    → passed (sections_of (n + k) m cs zs) x
    ≡ record { back = (passed (sections_of n m cs zs) x).back; cells = (passed (sections_of n m cs zs) x).cells ++ take k (drop n zs) }
unfolding sections_of passed
padded zero k m cs zs x e h =
    let z : m ≡ 0 = rw (div-one m) at e in let f : 0 + k ≡ k = omega arith in rw (z, f) (zeros k cs zs x (omega arith))
padded (suc n) k m cs [] x e h = absurd (omega arith)
padded (suc n) k m cs (z ∷ zs) x e h =
    let f : suc n + k ≡ suc (n + k) = omega arith in
    let d : m / 16 / 16 ^ n ≡ 0 = div-div-eq-div-mul m 16 (16 ^ n) ∙ rw (pow-succ' 16 n) at e in
    rw (f, padded n k (m / 16) (drop 1 cs) zs (adapted (code_of (m % 16)) x z (get_or cs 0 (pos 0))).1 d (omega arith))

-- n sections, or k more of nibbles that are zero
module _ (n k m : ℕ) (cs : List ℤ) (e : m / 16 ^ n ≡ 0) where
  module _ (zs : List ℤ) (h : n + k ≤ length zs) (x : ℤ) where
    same_answer : chain_answer (n + k) m cs zs x ≡ chain_answer n m cs zs x
    same_answer = ap (λ (r : Passed). r.back) (padded n k m cs zs x e h)

    same-cells : chain_next (n + k) m cs zs x ≡ chain_next n m cs zs x
    same-cells =
        ap (λ (r : Passed). r.cells ++ drop (n + k) zs) (padded n k m cs zs x e h)
        ∙ append_assoc (passed (sections_of n m cs zs) x).cells (take k (drop n zs)) (drop (n + k) zs)
        ∙ ap (λ (l : List ℤ). (passed (sections_of n m cs zs) x).cells ++ l) (rw (← drop-drop k n zs) (take-append-drop k (drop n zs)))

    still : n + k ≤ length (chain_next n m cs zs x)
    still = let l = next-length n m cs zs x (omega arith) in omega arith

  pub same-scan : (zs xs : List ℤ) → n + k ≤ length zs
      → scan (chain_answer (n + k) m cs) (chain_next (n + k) m cs) zs xs ≡ scan (chain_answer n m cs) (chain_next n m cs) zs xs
  same-scan zs [] h = refl
  same-scan zs (x ∷ xs) h =
      rw (same_answer zs h x, same-cells zs h x, same-scan (chain_next n m cs zs x) xs (still zs h x))

  pub same_ends : (zs xs : List ℤ) → n + k ≤ length zs
      → ends (chain_answer (n + k) m cs) (chain_next (n + k) m cs) zs xs ≡ ends (chain_answer n m cs) (chain_next n m cs) zs xs
  same_ends zs [] h = refl
  same_ends zs (x ∷ xs) h =
      ap (λ (l : List ℤ). ends (chain_answer (n + k) m cs) (chain_next (n + k) m cs) l xs) (same-cells zs h x)
      ∙ same_ends (chain_next n m cs zs x) xs (still zs h x)
