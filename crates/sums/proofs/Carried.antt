-- The whole numbers are a group. Sums and differences of numbers that are the same modulo 2 ^ w are the same modulo 2 ^ w, so the cascade over
-- words goes along with the cascade over the whole numbers, whatever its cells hold and whatever comes in; and what leaves an integrator or a
-- comb is a word.
use mathlib.Core.Path.{◌≡◌, refl, sym, ◌∙◌}
use mathlib.Core.List.{List, [], ◌∷◌}
use Prim.Native.Nat.{ℕ, zero, suc, ◌+◌, ◌*◌, ◌/◌}
use native.Mathlib.Omega.{arith}
use lib.IntN.{ℤ, pos, +ℤ_assoc, +ℤ_comm, +ℤ_idr, +ℤ-neg_ℤ_cancel, -ℤ-+ℤ_cancel}
use lib.ListN.{length}
use lib.Pow.{pow_pos}
use mir.Syntax.{Width}
use mir.Val.{SFits, hbits}
use Rattle.words.specs.Words.{wrap}
use Rattle.words.proofs.Reading.{wrap-wrap}
use Rattle.words.proofs.Sums.{Same, equal, ◌and◌, wrapped, wrap-same, same_add, same-sub}
use Rattle.sums.specs.Ops.{Laws, times}
use Rattle.sums.specs.Signed.{signed_ops, exact_ops}
use Rattle.sums.specs.Machine.{Machine}
use Rattle.sums.specs.Moving.{held}
use Rattle.sums.specs.Demands.{modulo}
use Rattle.sums.proofs.Sequences.{down, pre, acc}
use Rattle.sums.proofs.Cascade.{prep, lag, comb_val, int_val}
use Rattle.sums.proofs.Traces.{slow, output}

-- the whole numbers are a group
pub exact_laws : Laws exact_ops
exact_laws = record { assoc = +ℤ_assoc; comm = +ℤ_comm; add_nil = +ℤ_idr; add_sub = +ℤ-neg_ℤ_cancel; sub_add = -ℤ-+ℤ_cancel }

module _ (w : Width) where
  pub nil_in : SFits w (pos 0)
  nil_in = record { sfits = pow_pos (hbits w) }

  -- sequences that are the same modulo 2 ^ w, through an integrator, a comb, and a cascade of either
  abbrev Alike : (ℕ → ℤ) → (ℕ → ℤ) → Type 0
  Alike f g = (t : ℕ) → Same w (f t) (g t)

  pre_alike : (a : ℤ) (f g : ℕ → ℤ) → Alike f g → Alike (pre (signed_ops w) a f) (pre exact_ops a g)
  unfolding pre
  pre_alike a f g h zero = equal refl
  pre_alike a f g h (suc t) = wrapped w _ and same_add (pre_alike a f g h t) (h t)

  ints_alike : (l : List ℤ) (f g : ℕ → ℤ) → Alike f g → Alike (int_val (signed_ops w) l f) (int_val exact_ops l g)
  unfolding int_val acc
  ints_alike [] f g h = h
  ints_alike (a ∷ l) f g h = ints_alike l (acc (signed_ops w) a f) (acc exact_ops a g) (λ t. pre_alike a f g h (suc t))

  prep_alike : (l : List ℤ) (f g : ℕ → ℤ) → Alike f g → Alike (prep l f) (prep l g)
  unfolding prep
  prep_alike [] f g h k = h k
  prep_alike (a ∷ l) f g h zero = equal refl
  prep_alike (a ∷ l) f g h (suc k) = prep_alike l f g h k

  combs-alike : (ls : List (List ℤ)) (f g : ℕ → ℤ) → Alike f g → Alike (comb_val (signed_ops w) ls f) (comb_val exact_ops ls g)
  unfolding comb_val lag
  combs-alike [] f g h = h
  combs-alike (l ∷ ls) f g h =
      combs-alike ls (lag (signed_ops w) l f) (lag exact_ops l g) (λ k. wrapped w _ and same-sub (h k) (prep_alike l f g h k))

  -- what leaves one is a word
  ints_word : (a : ℤ) (l : List ℤ) (f : ℕ → ℤ) (t : ℕ) → wrap w (int_val (signed_ops w) (a ∷ l) f t) ≡ int_val (signed_ops w) (a ∷ l) f t
  unfolding int_val acc pre
  ints_word a [] f t = wrap-wrap w _
  ints_word a (b ∷ l) f t = ints_word b l (acc (signed_ops w) a f) t

  combs-word : (l : List ℤ) (ls : List (List ℤ)) (f : ℕ → ℤ) (k : ℕ)
      → wrap w (comb_val (signed_ops w) (l ∷ ls) f k) ≡ comb_val (signed_ops w) (l ∷ ls) f k
  unfolding comb_val lag
  combs-word l [] f k = wrap-wrap w _
  combs-word l (m ∷ ls) f k = combs-word m ls (lag (signed_ops w) l f) k

  -- N integrators, every R-th value from number c on, N combs
  falls-modulo : (N R c : ℕ) (is : List ℤ) (ls : List (List ℤ)) → length is ≡ N → length ls ≡ N → (x : ℕ → ℤ) (k : ℕ)
      → comb_val (signed_ops w) ls (down R c (int_val (signed_ops w) is x)) k ≡ modulo w N (comb_val exact_ops ls (down R c (int_val exact_ops is x)) k)
  unfolding modulo down int_val comb_val
  falls-modulo zero R c [] [] ei el x k = refl
  falls-modulo zero R c [] (l ∷ ls) ei el x k = absurd (omega arith)
  falls-modulo zero R c (a ∷ is) ls ei el x k = absurd (omega arith)
  falls-modulo (suc n) R c is [] ei el x k = absurd (omega arith)
  falls-modulo (suc n) R c is (l ∷ ls) ei el x k =
      sym (combs-word l ls (down R c (int_val (signed_ops w) is x)) k)
      ∙ wrap-same (combs-alike (l ∷ ls) (down R c (int_val (signed_ops w) is x)) (down R c (int_val exact_ops is x))
      (λ i. ints_alike is x x (λ t. equal refl) (c + i * R)) k)

  -- N combs, each value R times, N integrators
  pub rises_modulo : (N R : ℕ) (is : List ℤ) (ls : List (List ℤ)) → length is ≡ N → length ls ≡ N → (x : ℕ → ℤ) (t : ℕ)
      → int_val (signed_ops w) is (held R (comb_val (signed_ops w) ls x)) t ≡ modulo w N (int_val exact_ops is (held R (comb_val exact_ops ls x)) t)
  unfolding modulo held int_val comb_val
  rises_modulo zero R [] [] ei el x t = refl
  rises_modulo zero R [] (l ∷ ls) ei el x t = absurd (omega arith)
  rises_modulo zero R (a ∷ is) ls ei el x t = absurd (omega arith)
  rises_modulo (suc n) R [] ls ei el x t = absurd (omega arith)
  rises_modulo (suc n) R (a ∷ is) ls ei el x t =
      sym (ints_word a is (held R (comb_val (signed_ops w) ls x)) t)
      ∙ wrap-same (ints_alike (a ∷ is) (held R (comb_val (signed_ops w) ls x)) (held R (comb_val exact_ops ls x))
      (λ i. combs-alike ls x x (λ j. equal refl) (i / R)) t)

  -- the decimator's outputs over words
  pub output-modulo : (N : ℕ) (s : Machine ℤ) → length s.integrators ≡ N → length s.lines ≡ N → (x : ℕ → ℤ) (k : ℕ)
      → output (signed_ops w) s x k ≡ modulo w N (output exact_ops s x k)
  unfolding output slow
  output-modulo N s ei el x k = falls-modulo N (suc s.rate) s.countdown s.integrators s.lines ei el x k

  -- n times x
  pub times-alike : (n : ℕ) (x : ℤ) → Same w (times (signed_ops w) n x) (times exact_ops n x)
  unfolding times
  times-alike zero x = equal refl
  times-alike (suc n) x = wrapped w _ and same_add (times-alike n x) (equal refl)
