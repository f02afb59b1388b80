-- The weighing loop: what is summed and what is left make the weighed sum, modulo 2 ^ 32.
use mathlib.Core.Path.{◌≡◌, refl, sym, ap, ap₂, ◌∙◌, subst, fun_ext}
use mathlib.Core.List.{List}
use Prim.Native.Nat.{ℕ, suc, ◌+◌, ◌<◌, ◌≤◌}
use native.Mathlib.Nat.{zero-add, add-zero}
use native.Mathlib.Numerals.{add-one}
use native.Mathlib.Omega.{arith}
use lib.IntN.{ℤ, pos, ◌+ℤ◌, ◌*ℤ◌, +ℤ_idl, +ℤ_idr, +ℤ_assoc}
use lib.ListN.{length, drop, get_or}
use lib.Seq.{drop-cons, drop-length}
use mir.Syntax.{w32}
use Rattle.words.specs.Words.{wrap}
use Rattle.words.proofs.Sums.{Same, equal, wrapped, same_add, same-mul, wrap-same, ◌and◌}
use Rattle.words.proofs.Reading.{wrap_is, wrap-wrap}
use Rattle.fir.specs.Ways.{ways}
use Rattle.fir.specs.Weights.{weights, weighed}

-- what is left to weigh from number n on
pub later : ℕ → List ℤ → ℤ
later n l = weights (λ k. ways 64 3 (n + k)) (drop n l)

later_all : (l : List ℤ) → later 0 l ≡ weights (ways 64 3) l
unfolding later
later_all l = ap (λ (h : ℕ → ℕ). weights h l) (fun_ext (λ k. ap (ways 64 3) (zero-add k)))

later_on : (n : ℕ) (l : List ℤ) → n < length l → later n l ≡ pos (ways 64 3 n) *ℤ get_or l n (pos 0) +ℤ later (suc n) l
unfolding later weights
later_on n l h =
    ap (weights (λ k. ways 64 3 (n + k))) (drop-cons l n (pos 0) h)
    ∙ ap₂ (λ (m : ℕ) (g : ℕ → ℕ). pos (ways 64 3 m) *ℤ get_or l n (pos 0) +ℤ weights g (drop (suc n) l)) (add-zero n)
    (fun_ext (λ k. ap (ways 64 3) (let e : n + suc k ≡ suc n + k = omega arith in e)))

later_none : (l : List ℤ) → length l ≡ 190 → later 190 l ≡ pos 0
unfolding later weights
later_none l h = ap (weights (λ k. ways 64 3 (190 + k))) (ap (λ (n : ℕ). drop n l) (sym h) ∙ drop-length l)

pub record Sums (l : List ℤ) (n : ℕ) (sum : ℤ) : Type 0 where
  pub few : n ≤ 190
  pub left : Same w32 (sum +ℤ later n l) (weights (ways 64 3) l)
  pub word : wrap w32 sum ≡ sum

pub sums-start : (l : List ℤ) → Sums l 0 (pos 0)
sums-start l = record {
  few = omega arith;
  left = equal (+ℤ_idl (later 0 l) ∙ later_all l);
  word = wrap_is w32 (pos 0) (record { sfits = omega arith });
}

pub sums_turn : (l : List ℤ) (n : ℕ) (sum t r : ℤ) → n < 190 → length l ≡ 190 → Sums l n sum → t ≡ wrap w32 (pos (ways 64 3 n))
    → r ≡ wrap w32 (sum +ℤ wrap w32 (t *ℤ get_or l n (pos 0))) → Sums l (n + 1) r
sums_turn l n sum t r h k s e f =
    let a = pos (ways 64 3 n) in let x = get_or l n (pos 0) in
    let p : Same w32 (wrap w32 (t *ℤ x)) (a *ℤ x) = wrapped w32 (t *ℤ x) and same-mul (equal e and wrapped w32 a) (equal {a = x} refl) in
    let q : Same w32 r (sum +ℤ a *ℤ x) = (equal f and wrapped w32 (sum +ℤ wrap w32 (t *ℤ x))) and same_add (equal {a = sum} refl) p in
    record {
      few = omega arith;
      left = subst (λ (m : ℕ). Same w32 (r +ℤ later m l) (weights (ways 64 3) l)) (sym (add-one n))
          ((same_add q (equal {a = later (suc n) l} refl)
          and equal (+ℤ_assoc sum (a *ℤ x) (later (suc n) l) ∙ ap (λ y. sum +ℤ y) (sym (later_on n l (omega arith))))) and s.left);
      word = rw f (wrap-wrap w32 (sum +ℤ wrap w32 (t *ℤ x)));
    }

pub sums_end : (l : List ℤ) (n : ℕ) (sum : ℤ) → 190 ≤ n → length l ≡ 190 → Sums l n sum → sum ≡ weighed l
unfolding weighed
sums_end l n sum h k s =
    let e : n ≡ 190 = omega (arith, s.few) in
    sym s.word
    ∙ wrap-same (equal (sym (+ℤ_idr sum) ∙ ap (λ y. sum +ℤ y) (sym (ap (λ (m : ℕ). later m l) e ∙ later_none l k))) and s.left)
