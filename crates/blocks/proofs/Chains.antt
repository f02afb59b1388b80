-- A loop that runs over the first k cells of an array in place, each cell made anew from itself and what came before: once for every state.
use mathlib.Core.Path.{◌≡◌, refl, sym, ap, ◌∙◌}
use mathlib.Core.List.{List, ◌++◌, append_assoc}
use Prim.Native.Nat.{ℕ, suc, ◌+◌, ◌≤◌, ◌<◌}
use native.Mathlib.Numerals.{add-one}
use native.Mathlib.Omega.{arith}
use lib.ListN.{length, take, drop, get_or, set, length-set, take-append-drop}
use lib.Seq.{take-suc-set, slice, slice-cons, slice_empty, drop-set-lt, take-set-lt}
use Rattle.blocks.specs.Scan.{scan, ends}

pub record Chain {S A : Type 0} (cell : S → A → A) (next : S → A → S) (k : ℕ) (s₀ : S) (l₀ l : List A) (s : S) (i : ℕ) : Type 0 where
  pub small : i ≤ k
  pub same : length l ≡ length l₀
  pub made : take i l ++ (scan cell next s (slice i k l) ++ drop k l) ≡ scan cell next s₀ (take k l₀) ++ drop k l₀
  pub state : ends cell next s (slice i k l) ≡ ends cell next s₀ (take k l₀)

module _ {S A : Type 0} (cell : S → A → A) (next : S → A → S) (k : ℕ) (s₀ : S) (l₀ : List A) (fits : k ≤ length l₀) where
  pub begin : Chain cell next k s₀ l₀ l₀ s₀ 0
  begin = record { small = omega arith; same = refl; made = refl; state = refl }

  pub onward : (l : List A) (s : S) (i : ℕ) (d : A) → i < k → Chain cell next k s₀ l₀ l s i
      → Chain cell next k s₀ l₀ (set l i (cell s (get_or l i d))) (next s (get_or l i d)) (i + 1)
  onward l s i d h g =
      let short : i < length l = omega (arith, g.same) in
      let room : k ≤ length l = omega (arith, g.same) in
      let v = cell s (get_or l i d) in
      let rest : slice (suc i) k (set l i v) ≡ slice (suc i) k l =
      ap (drop (suc i)) (take-set-lt k l i v h) ∙ drop-set-lt (suc i) (take k l) i v (omega arith) in
      record {
        small = omega arith;
        same = length-set l i v ∙ g.same;
        made = rw (add-one, take-suc-set l i, rest, drop-set-lt k l i v h, append_assoc) (rw (slice-cons i k l d) at g.made);
        state = rw (add-one, rest) (rw (slice-cons i k l d) at g.state);
      }

  pub finish : (l : List A) (s : S) (i : ℕ) → k ≤ i → Chain cell next k s₀ l₀ l s i
      → (l ≡ scan cell next s₀ (take k l₀) ++ drop k l₀) × (s ≡ ends cell next s₀ (take k l₀))
  finish l s i h g =
      let e : i ≡ k = omega arith in
      (sym (take-append-drop k l) ∙ rw (e, slice_empty) at g.made, rw (e, slice_empty) at g.state)
