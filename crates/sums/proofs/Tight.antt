-- N M can't be lowered. All cells are zero but the newest of the first line, which is 1, and so are the inputs: each comb hands the 1 on, M
-- outputs later and turned about, so that it comes out last at output N M, as 1 or as -1, where the moving sum is 0.
use mathlib.Core.Path.{◌≡◌, refl, sym, ap, ap₂, subst, fun_ext, ◌∙◌}
use mathlib.Core.List.{List, [], ◌∷◌, ◌++◌}
use mathlib.Core.Logic.{◌⊎◌, inl, inr}
use mathlib.Core.Option.{some}
use Prim.Native.Nat.{ℕ, zero, suc, ◌+◌, ◌*◌, ◌-◌, ◌≤◌, ◌<◌}
use native.Mathlib.Omega.{arith}
use native.Mathlib.Nat.{add-zero, zero-add, mul-pos}
use borrow.Author.Tests.{ltb-true, lt-ltb}
use lib.IntN.{ℤ, pos, negsuc, ◌+ℤ◌, ◌-ℤ◌}
use lib.ListN.{length, get_or, get_elem?, take, replicate, length-replicate, length-append}
use lib.Pow.{pow_pos, pow-lt}
use mir.Syntax.{Width, w8, w16, w32, w64, w128}
use mir.Val.{SFits, hbits}
use Rattle.words.specs.Words.{wrap}
use Rattle.words.proofs.Reading.{wrap_is}
use Rattle.sums.specs.Signed.{signed_ops, exact_ops}
use Rattle.sums.specs.Machine.{Output}
use Rattle.sums.specs.Moving.{last, moving}
use Rattle.sums.specs.State.{State, rows, view}
use Rattle.sums.specs.Calls.{resume_number, resume_state}
use Rattle.sums.specs.Runs.{needed, outputs}
use Rattle.sums.specs.Demands.{input, modulo, InWord, Contents, Misleads}
use Rattle.sums.proofs.Refusals.{Sound}
use Rattle.sums.proofs.Steps.{packed, Fit}
use Rattle.sums.proofs.Sequences.{iter, down, acc}
use Rattle.sums.proofs.Cascade.{seg, prep, prep_past, lag, comb_val, int_val}
use Rattle.sums.proofs.Zeros.{late, late_add, late_none, lagz, combs_iter}
use Rattle.sums.proofs.Traces.{slow, output, outcome, outputs_are}
use Rattle.sums.proofs.Carried.{exact_laws, nil_in}
use Rattle.sums.proofs.Settling.{needed-falls, value_is}
use Rattle.sums.proofs.Makers.{take-replicate, rows-first, resume_is, resume_sound, replicate_in, append_in}
use Rattle.sums.proofs.Constant.{pre_still}

-- 1 or -1
abbrev One : ℤ → Type 0
One z = (z ≡ pos 1) ⊎ (z ≡ negsuc 0)

one-turned : (z : ℤ) → One z → One (pos 0 -ℤ z)
one-turned z (inl e) = inr (ap (λ y. pos 0 -ℤ y) e)
one-turned z (inr e) = inl (ap (λ y. pos 0 -ℤ y) e)

-- the 1 stands at output j M, counted from 1, and nothing after it
record Lone (M j : ℕ) (f : ℕ → ℤ) : Type 0 where
  pub there : One (f (j * M - 1))
  pub still : (k : ℕ) → j * M ≤ k → f k ≡ pos 0

late_past : (M : ℕ) (f : ℕ → ℤ) (n k : ℕ) → k ≡ M + n → late exact_ops M f k ≡ f n
late_past M f n k e = ap₂ (λ p q. late exact_ops p f q) (sym (add-zero M)) e ∙ late_add exact_ops M 0 f n ∙ late_none exact_ops f n

lone_on : (M j : ℕ) (f : ℕ → ℤ) → 0 < M → 0 < j → Lone M j f → Lone M (suc j) (lagz exact_ops M f)
unfolding lagz
lone_on M j f m p l =
    let q : 0 < j * M = mul-pos p m in
    record {
      there =
          let k : ℕ = suc j * M - 1 in
          let e : f k -ℤ late exact_ops M f k ≡ pos 0 -ℤ f (j * M - 1) =
          ap₂ ◌-ℤ◌ (l.still k (omega arith)) (late_past M f (j * M - 1) k (omega arith)) in
          subst One (sym e) (one-turned (f (j * M - 1)) l.there);
      still = λ k h. ap₂ ◌-ℤ◌ (l.still k (omega arith)) (late_past M f (k - M) k (omega arith) ∙ l.still (k - M) (omega arith));
    }

lones : (M n j : ℕ) (f : ℕ → ℤ) → 0 < M → 0 < j → Lone M j f → Lone M (n + j) (iter (lagz exact_ops M) n f)
unfolding iter
lones M zero j f m p l = rw (zero-add j) l
lones M (suc n) j f m p l =
    let e : n + suc j ≡ suc n + j = omega arith in
    subst (λ k. Lone M k (iter (lagz exact_ops M) n (lagz exact_ops M f))) e
    (lones M n (suc j) (lagz exact_ops M f) m (omega arith) (lone_on M j f m p l))

-- the first line: zeros, then 1
abbrev line : ℕ → List ℤ
line m = replicate m (pos 0) ++ (pos 1 ∷ [])

line-length : (m : ℕ) → length (line m) ≡ suc m
line-length m = simp (length-append, length-replicate) (omega arith)

line-last : (m : ℕ) (v : ℕ → ℤ) → prep (line m) v m ≡ pos 1
unfolding prep
line-last zero v = refl
line-last (suc m) v = line-last m v

lone_first : (m : ℕ) → Lone (suc m) 1 (lag exact_ops (line m) (λ i. pos 0))
unfolding lag
lone_first m = record {
  there =
      let e : 1 * suc m - 1 ≡ m = omega arith in
      rw e (inr (ap (λ y. pos 0 -ℤ y) (line-last m (λ i. pos 0))));
  still = λ k h.
      let e : k ≡ (k - suc m) + length (line m) = rw (line-length m) (omega arith) in
      ap (λ y. pos 0 -ℤ y) (ap (prep (line m) (λ i. pos 0)) e ∙ prep_past (line m) (λ i. pos 0) (k - suc m));
}

-- what comes out over zeros, at output N M
comes_out : (n m : ℕ) → One (comb_val exact_ops (line m ∷ replicate n (replicate (suc m) (pos 0))) (λ i. pos 0) (suc n * suc m - 1))
unfolding comb_val
comes_out n m =
    let e : n + 1 ≡ suc n = omega arith in
    let f : ℕ → ℤ = lag exact_ops (line m) (λ i. pos 0) in
    let l : Lone (suc m) (suc n) (iter (lagz exact_ops (suc m)) n f) =
    subst (λ k. Lone (suc m) k (iter (lagz exact_ops (suc m)) n f)) e (lones (suc m) n 1 f (omega arith) (omega arith) (lone_first m)) in
    subst (λ (h : ℕ → ℤ). One (h (suc n * suc m - 1))) (sym (combs_iter exact_ops (suc m) n f)) l.there

-- 1 and -1 are words, and not 0
half_pos : (w : Width) → 0 < hbits w
half_pos w8 = omega arith
half_pos w16 = omega arith
half_pos w32 = omega arith
half_pos w64 = omega arith
half_pos w128 = omega arith

one_in : (w : Width) → SFits w (pos 1)
one_in w = record { sfits = pow-lt {i = 0} {j = hbits w} (half_pos w) }

one-differs : (w : Width) (z : ℤ) → One z → wrap w z ≡ wrap w (pos 0) → ⊥
one-differs w z (inl e) q =
    let c : pos 1 ≡ pos 0 = sym (wrap_is w (pos 1) (one_in w)) ∙ sym (ap (wrap w) e) ∙ q ∙ wrap_is w (pos 0) (nil_in w) in
    let k : ◌≡◌ {A = ℕ} 0 1 = cc in omega arith
one-differs w z (inr e) q =
    let b : SFits w (negsuc 0) = record { sfits = pow_pos (hbits w) } in
    let c : negsuc 0 ≡ pos 0 = sym (wrap_is w (negsuc 0) b) ∙ sym (ap (wrap w) e) ∙ q ∙ wrap_is w (pos 0) (nil_in w) in
    let k : ◌≡◌ {A = ℕ} 0 1 = cc in omega arith

-- over zeros the last integrator and the moving sum stay 0
ints_none : (n : ℕ) → int_val exact_ops (replicate n (pos 0)) (λ i. pos 0) ≡ (λ i. pos 0)
unfolding int_val acc
ints_none zero = refl
ints_none (suc n) = ap (int_val exact_ops (replicate n (pos 0))) (fun_ext (λ t. pre_still exact_ops exact_laws (pos 0) (suc t))) ∙ ints_none n

last_none : (L t : ℕ) → last exact_ops L (λ i. pos 0) t ≡ pos 0
unfolding last
last_none zero t = refl
last_none (suc L) zero = refl
last_none (suc L) (suc t) = ap (λ y. y +ℤ pos 0) (last_none L t)

moving-none : (L n : ℕ) → moving exact_ops L n (λ i. pos 0) ≡ (λ i. pos 0)
unfolding moving
moving-none L zero = refl
moving-none L (suc n) = ap (last exact_ops L) (moving-none L n) ∙ fun_ext (last_none L)

zeros_are : (n i : ℕ) → get_or (replicate n (pos 0)) i (pos 0) ≡ pos 0
zeros_are zero i = refl
zeros_are (suc n) zero = refl
zeros_are (suc n) (suc i) = zeros_are n i

elem_of : {A : Type 0} (f : ℕ → A) (n m k : ℕ) → k < m → get_elem? (seg f n m) k ≡ some (f (n + k))
unfolding seg
elem_of f n zero k h = absurd (omega arith)
elem_of f n (suc m) zero h = ap (λ i. some (f i)) (sym (add-zero n))
elem_of f n (suc m) (suc k) h = elem_of f (suc n) m k (omega arith) ∙ ap (λ i. some (f i)) (omega arith)

module _ (w : Width) (n m r c : ℕ) (e : resume_number (suc n) (suc m) r c ≡ 0) where
  abbrev cells : List ℤ
  cells = line m ++ replicate (64 - suc m) (pos 0)

  abbrev s : State ℤ
  s = packed (suc n) (suc m) r c (suc n * suc m) (pos 0) (replicate 8 (pos 0)) cells

  abbrev k : ℕ
  k = suc n * suc m - 1

  abbrev xs : List ℤ
  xs = replicate (suc (c + k * suc r)) (pos 0)

  q : Sound (suc n) (suc m) r c (suc n * suc m)
  q = resume_sound (suc n) (suc m) r c e

  holds : Contents (replicate 8 (pos 0)) cells
  holds = record {
    long8 = refl;
    long64 = length-append (line m) (replicate (64 - suc m) (pos 0)) ∙ ap₂ ◌+◌ (line-length m) (length-replicate (64 - suc m) (pos 0))
        ∙ omega (arith, q.short);
  }

  cells_in : InWord w cells
  cells_in =
      append_in w (line m) (replicate (64 - suc m) (pos 0))
      (append_in w (replicate m (pos 0)) (pos 1 ∷ []) (replicate_in w m (pos 0) (nil_in w)) one_only)
      (replicate_in w (64 - suc m) (pos 0) (nil_in w))
    where
      one_only : InWord w (pos 1 ∷ [])
      one_only zero = one_in w
      one_only (suc i) = nil_in w

  fit : Fit s
  fit = record { good = q; long8 = holds.long8; long64 = holds.long64 }

  quiet : input xs ≡ (λ i. pos 0)
  quiet = fun_ext (λ t. zeros_are (suc (c + k * suc r)) t)

  out_is : output exact_ops (view s) (input xs) k ≡ comb_val exact_ops (line m ∷ replicate n (replicate (suc m) (pos 0))) (λ i. pos 0) k
  unfolding output slow view down
  out_is =
      ap (λ x. comb_val exact_ops (rows (suc m) (suc n) cells)
      (λ i. int_val exact_ops (take (suc n) (replicate 8 (pos 0))) x (c + i * suc r)) k) quiet
      ∙ ap₂ (λ ls (f : ℕ → ℤ). comb_val exact_ops ls (λ i. f (c + i * suc r)) k)
      (rows-first (suc m) n (line m) (pos 0) (line-length m) q.short (omega (arith, q.few)))
      (ap (λ is. int_val exact_ops is (λ i. pos 0)) (take-replicate (suc n) 8 (pos 0) q.few) ∙ ints_none (suc n))

  there : k < needed (length xs) c r
  there = ltb-true k (needed (length xs) c r) (needed-falls (length xs) c r k
      ∙ lt-ltb (c + k * suc r) (length xs) (rw length-replicate (omega arith)))

  pub misleads : Misleads w (suc n) (suc m) r c
  unfolding modulo
  misleads = record {
    integrators = replicate 8 (pos 0);
    combs = cells;
    contents = holds;
    integrators_in = replicate_in w 8 (pos 0) (nil_in w);
    combs_in = cells_in;
    inputs = xs;
    inputs_in = replicate_in w (suc (c + k * suc r)) (pos 0) (nil_in w);
    given = y;
    is_given = is;
    differs = λ d. one-differs w (output exact_ops (view s) (input xs) k) (subst One (sym out_is) (comes_out n m))
        (sym (value_is w s fit xs k y was) ∙ d
        ∙ ap (wrap w) (ap (λ x. moving exact_ops (suc r * suc m) (suc n) x (c + k * suc r)) quiet
        ∙ ap (λ (f : ℕ → ℤ). f (c + k * suc r)) (moving-none (suc r * suc m) (suc n))));
  }
    where
      y : Output ℤ
      y = outcome (signed_ops w) (view s) (input xs) (0 + k)

      was : get_elem? (outputs (signed_ops w) s xs) k ≡ some y
      was = ap (λ l. get_elem? l k) (outputs_are (signed_ops w) s fit xs)
          ∙ elem_of (outcome (signed_ops w) (view s) (input xs)) 0 (needed (length xs) c r) k there

      is : get_elem? (outputs (signed_ops w) (resume_state (signed_ops w) (suc n) (suc m) r (replicate 8 (pos 0)) cells (pos 0) c) xs) k
          ≡ some y
      is = ap (λ q. get_elem? (outputs (signed_ops w) q xs) k)
          (resume_is (signed_ops w) (suc n) (suc m) r c (replicate 8 (pos 0)) cells (pos 0) e) ∙ was
