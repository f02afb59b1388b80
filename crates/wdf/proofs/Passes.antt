-- The loop over the sections: the cells that are made, and what the sections that are left would make, are the whole.
use mathlib.Core.Path.{◌≡◌, refl, ◌∙◌}
use mathlib.Core.List.{List, [], ◌∷◌, ◌++◌, append_assoc}
use Prim.Native.Nat.{ℕ, suc, ◌+◌, ◌-◌, ◌/◌, ◌%◌, ◌≤◌, ◌<◌}
use native.Mathlib.Numerals.{add-one}
use native.Mathlib.Nat.{add-zero, sub-zero, sub_self}
use native.Mathlib.Omega.{arith}
use lib.ListN.{length, take, drop, get_or, set, length-set}
use lib.Seq.{take-suc-set, drop-set-lt, drop-drop, get_or-drop, set_split}
use lib.IntN.{ℤ, pos}
use Rattle.adapters.specs.declared.tpa.Ports.{Ports}
use Rattle.adapters.specs.Adapters.{adapted, code_of}
use Rattle.sections.specs.Sections.{sections_of, Passed, passed}

-- what the n sections from place i on make of x
abbrev pub rest : ℕ → ℕ → ℕ → List ℤ → List ℤ → ℤ → Passed
rest n m i cs zs x = passed (sections_of n m (drop i cs) (drop i zs)) x

-- the outputs of the section at place i
abbrev pub section : ℕ → ℕ → List ℤ → List ℤ → ℤ → Ports
section m i cs zs x = adapted (code_of (m % 16)) x (get_or zs i (pos 0)) (get_or cs i (pos 0))

one_more_law : (n m i : ℕ) (cs zs : List ℤ) (x : ℤ) (p : Ports) → p ≡ section m i cs zs x
    → rest (suc n) m i cs zs x
    ≡ record { back = p.0; cells = (rest n (m / 16) (suc i) cs zs p.1).back ∷ (rest n (m / 16) (suc i) cs zs p.1).cells }
unfolding sections_of passed
one_more_law n m i cs zs x p e =
    rw (e, get_or-drop i cs 0 (pos 0), get_or-drop i zs 0 (pos 0), drop-drop 1 i cs, drop-drop 1 i zs, add-zero i, add-one i)

-- what the sections up to `last` make of x
abbrev pub whole : ℕ → ℕ → List ℤ → List ℤ → ℤ → Passed
whole last m cs zs x = passed (sections_of (last + 1) m cs zs) x

-- The cells before place i are made, y is the answer; `left` holds the nibbles from place i + 1 on and `going` is the last second output.
pub record Passing (last m : ℕ) (cs zs₀ : List ℤ) (x y : ℤ) (zs : List ℤ) (going : ℤ) (left i : ℕ) : Type 0 where
  pub small : i ≤ last
  pub same : length zs ≡ length zs₀
  pub answer : y ≡ (whole last m cs zs₀ x).back
  pub made : take i zs ++ ((rest (last - i) left (i + 1) cs zs going).back ∷ (rest (last - i) left (i + 1) cs zs going).cells)
      ≡ (whole last m cs zs₀ x).cells
  pub beyond : drop (last + 1) zs ≡ drop (last + 1) zs₀

module _ (last m : ℕ) (cs zs₀ : List ℤ) (x : ℤ) (fits : last < length zs₀) where
  pub begin : (p : Ports) → p ≡ section m 0 cs zs₀ x → Passing last m cs zs₀ x p.0 zs₀ p.1 (m / 16) 0
  begin p e =
      let b = one_more_law last m 0 cs zs₀ x p e in
      record { small = omega arith; same = refl; answer = rw (add-one last, b); made = rw (add-one last, sub-zero last, b); beyond = refl }

  module _ (y : ℤ) (zs : List ℤ) (going : ℤ) (left i : ℕ) (g : Passing last m cs zs₀ x y zs going left i) where
    pub onward : (p : Ports) → i < last → p ≡ section left (i + 1) cs zs going
        → Passing last m cs zs₀ x y (set zs i p.0) p.1 (left / 16) (i + 1)
    onward p h e =
        let short : i < length zs = omega (arith, g.same) in
        let n : last - i ≡ suc (last - (i + 1)) = omega arith in
        let f = one_more_law (last - (i + 1)) left (i + 1) cs zs going p e in
        let t : take (i + 1) (set zs i p.0) ≡ take i zs ++ (p.0 ∷ []) = rw (add-one i) (take-suc-set zs i p.0 short) in
        record {
          small = omega arith;
          same = length-set zs i p.0 ∙ g.same;
          answer = g.answer;
          made = rw (t, drop-set-lt (i + 1 + 1) zs i p.0 (omega arith), add-one (i + 1), append_assoc) (rw (n, f) at g.made);
          beyond = drop-set-lt (last + 1) zs i p.0 (omega arith) ∙ g.beyond;
        }

    pub finish : last ≤ i → set zs last going ≡ (whole last m cs zs₀ x).cells ++ drop (last + 1) zs₀
    unfolding sections_of passed
    finish h =
        let e : i ≡ last = omega (arith, g.small) in
        let short : last < length zs = omega (arith, g.same) in
        let w : take last zs ++ (going ∷ []) ≡ (whole last m cs zs₀ x).cells = rw (e, sub_self) at g.made in
        rw (← w, ← g.beyond, append_assoc, add-one last) (set_split zs last going short)
