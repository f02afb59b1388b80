-- Before input number t of a run from zero the state's cells are read off the stages' sequences: the accumulators are the contents, the
-- retained cells what the stages gave before, with a cell of zero in front for the last stage, which none comes after.
use mathlib.Core.Path.{◌≡◌, refl, sym, ap, ap₂, ◌∙◌, subst}
use mathlib.Core.List.{List, [], ◌∷◌, ◌++◌}
use Prim.Native.Nat.{ℕ, zero, suc, ◌+◌, ◌-◌, ◌/◌, ◌%◌, ◌^◌, ◌<◌, ◌≤◌}
use native.Mathlib.Omega.{arith}
use lib.IntN.{ℤ, pos, ◌+ℤ◌, ◌-ℤ◌}
use lib.ListN.{length, take, drop, get_or, replicate, length-append}
use lib.Seq.{take_at, length-take-le}
use Rattle.blocks.specs.Scan.{scan, ends}
use Rattle.dsm.specs.declared.Dsm.{Dsm}
use Rattle.dsm.specs.Modulator.{accumulated, carries, combined, retaining, output, keeping, modulator_out, next_of}
use Rattle.dsm.specs.Calls.{zeros_of}
use Rattle.dsm.proofs.Shapes.{length-accumulated, length-carries}
use Rattle.shaping.proofs.Stages.{pre, post, carry, was, outs}

-- ---- the cells before input number t

unfoldable pub accs : List ℕ → (ℕ → ℕ) → ℕ → List ℕ
accs [] f t = []
accs (a ∷ k) f t = pre a f t ∷ accs k (post a f) t

-- with a cell of zero for the last stage, which none comes after
unfoldable pub kept : List ℕ → (ℕ → ℕ) → ℕ → List ℤ
kept [] f t = []
kept (a ∷ k) f t = kept k (post a f) t ++ (was (outs k (post a f)) t ∷ [])

length_accs : (k : List ℕ) (f : ℕ → ℕ) (t : ℕ) → length (accs k f t) ≡ length k
unfolding accs
length_accs [] f t = refl
length_accs (a ∷ k) f t = ap suc (length_accs k (post a f) t)

length-kept : (k : List ℕ) (f : ℕ → ℕ) (t : ℕ) → length (kept k f t) ≡ length k
unfolding kept
length-kept [] f t = refl
length-kept (a ∷ k) f t =
    let h = length-kept k (post a f) t in
    rw (length-append (kept k (post a f) t) (was (outs k (post a f)) t ∷ [])) (omega arith)

accs_step : (k : List ℕ) (f : ℕ → ℕ) (t : ℕ) → accumulated (f t) (accs k f t) ≡ accs k f (suc t)
unfolding accumulated accs post pre
accs_step [] f t = refl
accs_step (a ∷ k) f t = ap (λ (l : List ℕ). pre a f (suc t) ∷ l) (accs_step k (post a f) t)

combined_end : (y : ℤ) (cs : List ℕ) (m : List ℤ) (c : ℕ) (v : ℤ) → length m ≡ length cs
    → combined y (cs ++ (c ∷ [])) (m ++ (v ∷ [])) ≡ pos c +ℤ combined y cs m -ℤ v
unfolding combined
combined_end y [] [] c v h = refl
combined_end y [] (r ∷ m) c v h = absurd (omega arith)
combined_end y (d ∷ cs) [] c v h = absurd (omega arith)
combined_end y (d ∷ cs) (r ∷ m) c v h = combined_end (pos d +ℤ y -ℤ r) cs m c v (omega arith)

retaining_end : (y : ℤ) (cs : List ℕ) (m : List ℤ) (c : ℕ) (v : ℤ) → length m ≡ length cs
    → retaining y (cs ++ (c ∷ [])) (m ++ (v ∷ [])) ≡ retaining y cs m ++ (combined y cs m ∷ [])
unfolding combined retaining
retaining_end y [] [] c v h = refl
retaining_end y [] (r ∷ m) c v h = absurd (omega arith)
retaining_end y (d ∷ cs) [] c v h = absurd (omega arith)
retaining_end y (d ∷ cs) (r ∷ m) c v h = ap (λ (l : List ℤ). y ∷ l) (retaining_end (pos d +ℤ y -ℤ r) cs m c v (omega arith))

combined-rest : (y : ℤ) (cs : List ℕ) (m r : List ℤ) → length m ≡ length cs → combined y cs (m ++ r) ≡ combined y cs m
unfolding combined
combined-rest y [] m r h = refl
combined-rest y (d ∷ cs) [] r h = absurd (omega arith)
combined-rest y (d ∷ cs) (v ∷ m) r h = combined-rest (pos d +ℤ y -ℤ v) cs m r (omega arith)

retaining-rest : (y : ℤ) (cs : List ℕ) (m r : List ℤ) → length m ≡ length cs → retaining y cs (m ++ r) ≡ retaining y cs m ++ r
unfolding retaining
retaining-rest y [] m r h = refl
retaining-rest y (d ∷ cs) [] r h = absurd (omega arith)
retaining-rest y (d ∷ cs) (v ∷ m) r h = ap (λ (l : List ℤ). y ∷ l) (retaining-rest (pos d +ℤ y -ℤ v) cs m r (omega arith))

-- as many cells as carries
alike : (k : List ℕ) (f : ℕ → ℕ) (t x : ℕ) → length (kept k f t) ≡ length (carries x (accs k f t))
alike k f t x = length-kept k f t ∙ sym (length-carries x (accs k f t) ∙ length_accs k f t)

out_is : (k : List ℕ) (f : ℕ → ℕ) (t : ℕ) → combined (pos 0) (carries (f t) (accs k f t)) (kept k f t) ≡ outs k f t
unfolding carries combined accs kept outs post pre carry
out_is [] f t = refl
out_is (a ∷ k) f t =
    let g = post a f in let v = pre a f t + f t in let x = v % 2 ^ 32 in
    combined_end (pos 0) (carries x (accs k g t)) (kept k g t) (v / 2 ^ 32) (was (outs k g) t) (alike k g t x)
    ∙ ap (λ y. pos (v / 2 ^ 32) +ℤ y -ℤ was (outs k g) t) (out_is k g t)

cells_are : (k : List ℕ) (f : ℕ → ℕ) (t : ℕ) → retaining (pos 0) (carries (f t) (accs k f t)) (kept k f t) ≡ kept k f (suc t)
unfolding carries retaining accs kept was post pre carry
cells_are [] f t = refl
cells_are (a ∷ k) f t =
    let g = post a f in let v = pre a f t + f t in let x = v % 2 ^ 32 in
    retaining_end (pos 0) (carries x (accs k g t)) (kept k g t) (v / 2 ^ 32) (was (outs k g) t) (alike k g t x)
    ∙ ap₂ (λ (l : List ℤ) y. l ++ (y ∷ [])) (cells_are k g t) (out_is k g t)

-- ---- the state before input number t

output_from : (cs : List ℕ) (l : List ℤ) → output cs l ≡ combined (pos 0) cs (pos 0 ∷ l)
unfolding output combined
output_from [] l = refl
output_from (c ∷ cs) l = ap (λ y. combined y cs l) (ap pos (omega arith))

keeping_from : (cs : List ℕ) (l : List ℤ) → pos 0 ∷ keeping cs l ≡ retaining (pos 0) cs (pos 0 ∷ l)
unfolding keeping retaining
keeping_from [] l = refl
keeping_from (c ∷ cs) l = ap (λ y. pos 0 ∷ retaining y cs l) (ap pos (omega arith))

pub record At (K : ℕ) (f : ℕ → ℕ) (t : ℕ) (s : Dsm) : Type 0 where
  pub order : s.order ≡ K
  pub room : K ≤ length s.accumulators
  pub contents : take K s.accumulators ≡ accs (replicate K 0) f t
  pub rest : List ℤ
  pub cells : pos 0 ∷ s.retained ≡ kept (replicate K 0) f t ++ rest

at_out : (K : ℕ) (f : ℕ → ℕ) (t : ℕ) (s : Dsm) → At K f t s → modulator_out s (f t) ≡ outs (replicate K 0) f t
unfolding modulator_out
at_out K f t s h =
    let k : List ℕ = replicate K 0 in let cs = carries (f t) (accs k f t) in
    rw (h.order, h.contents)
    (output_from cs s.retained
    ∙ ap (combined (pos 0) cs) h.cells
    ∙ combined-rest (pos 0) cs (kept k f t) h.rest (alike k f t (f t))
    ∙ out_is k f t)

at_next : (K : ℕ) (f : ℕ → ℕ) (t : ℕ) (s : Dsm) → At K f t s → At K f (suc t) (next_of s (f t))
unfolding next_of
at_next K f t s h =
    let k : List ℕ = replicate K 0 in
    let cs = carries (f t) (accs k f t) in
    let used = take K s.accumulators in let beyond = drop K s.accumulators in
    let m : length (accumulated (f t) used) ≡ K = length-accumulated (f t) used ∙ length-take-le K s.accumulators h.room in
    record {
      order = h.order;
      room = rw (h.order, length-append (accumulated (f t) used) beyond, m) (omega arith);
      contents = rw h.order (take_at (accumulated (f t) used) beyond K m ∙ ap (accumulated (f t)) h.contents ∙ accs_step k f t);
      rest = h.rest;
      cells = rw (h.order, h.contents)
          (keeping_from cs s.retained
          ∙ ap (retaining (pos 0) cs) h.cells
          ∙ retaining-rest (pos 0) cs (kept k f t) h.rest (alike k f t (f t))
          ∙ ap (λ (l : List ℤ). l ++ h.rest) (cells_are k f t));
    }

snoc : (n : ℕ) → replicate n (pos 0) ++ (pos 0 ∷ []) ≡ pos 0 ∷ replicate n (pos 0)
snoc zero = refl
snoc (suc n) = ap (λ (l : List ℤ). pos 0 ∷ l) (snoc n)

kept-none : (n : ℕ) (f : ℕ → ℕ) → kept (replicate n 0) f 0 ≡ replicate n (pos 0)
unfolding kept was
kept-none zero f = refl
kept-none (suc n) f = ap (λ (l : List ℤ). l ++ (pos 0 ∷ [])) (kept-none n (post 0 f)) ∙ snoc n

accs_none : (n : ℕ) (f : ℕ → ℕ) → accs (replicate n 0) f 0 ≡ replicate n 0
unfolding accs pre
accs_none zero f = refl
accs_none (suc n) f = ap (λ (l : List ℕ). 0 ∷ l) (accs_none n (post 0 f))

take_zeros : (n k : ℕ) → n ≤ k → take {A = ℕ} n (replicate k 0) ≡ replicate n 0
take_zeros zero k h = refl
take_zeros (suc n) zero h = absurd (omega arith)
take_zeros (suc n) (suc k) h = ap (λ (l : List ℕ). 0 ∷ l) (take_zeros n k (omega arith))

split_zeros : (n k : ℕ) → n ≤ k → replicate k (pos 0) ≡ replicate n (pos 0) ++ replicate (k - n) (pos 0)
split_zeros zero k h = let e : k ≡ k - 0 = omega arith in ap (λ (m : ℕ). replicate m (pos 0)) e
split_zeros (suc n) zero h = absurd (omega arith)
split_zeros (suc n) (suc k) h =
    let e : suc k - suc n ≡ k - n = omega arith in
    ap (λ (l : List ℤ). pos 0 ∷ l) (split_zeros n k (omega arith))
    ∙ ap (λ (m : ℕ). pos 0 ∷ (replicate n (pos 0) ++ replicate m (pos 0))) (sym e)

pub at_zero : (K : ℕ) (f : ℕ → ℕ) → K ≤ 8 → At K f 0 (zeros_of K)
at_zero K f h = record {
  order = refl;
  room = h;
  contents = take_zeros K 8 h ∙ sym (accs_none K f);
  rest = replicate (9 - K) (pos 0);
  cells = split_zeros K 9 (omega arith) ∙ ap (λ (l : List ℤ). l ++ replicate (9 - K) (pos 0)) (sym (kept-none K f));
}

-- ---- along a list

-- from input number t on, the list is the sequence
abbrev pub Follows : (ℕ → ℕ) → ℕ → List ℕ → Type 0
Follows f t xs = (i : ℕ) → i < length xs → get_or xs i 0 ≡ f (t + i)

follows_on : (f : ℕ → ℕ) (t x : ℕ) (xs : List ℕ) → Follows f t (x ∷ xs) → Follows f (suc t) xs
follows_on f t x xs h i l = h (suc i) (omega arith) ∙ ap f (omega arith)

first_is : (f : ℕ → ℕ) (t x : ℕ) (xs : List ℕ) → Follows f t (x ∷ xs) → x ≡ f t
first_is f t x xs h = h 0 (omega arith) ∙ ap f (omega arith)

pub outs_along : (K : ℕ) (f : ℕ → ℕ) (xs : List ℕ) (t : ℕ) (s : Dsm) → At K f t s → Follows f t xs → (i : ℕ) → i < length xs
    → get_or (scan modulator_out next_of s xs) i (pos 0) ≡ outs (replicate K 0) f (t + i)
outs_along K f [] t s a h i l = absurd (omega arith)
outs_along K f (x ∷ xs) t s a h zero l =
    ap (modulator_out s) (first_is f t x xs h) ∙ at_out K f t s a ∙ ap (outs (replicate K 0) f) (omega arith)
outs_along K f (x ∷ xs) t s a h (suc i) l =
    let e = first_is f t x xs h in
    outs_along K f xs (suc t) (next_of s x) (rw e (at_next K f t s a)) (follows_on f t x xs h) i (omega arith)
    ∙ ap (outs (replicate K 0) f) (omega arith)

pub ends-along : (K : ℕ) (f : ℕ → ℕ) (xs : List ℕ) (t : ℕ) (s : Dsm) → At K f t s → Follows f t xs → (n : ℕ) → n ≤ length xs
    → At K f (t + n) (ends modulator_out next_of s (take n xs))
ends-along K f xs t s a h zero l = subst (λ i. At K f i s) (omega arith) a
ends-along K f [] t s a h (suc n) l = absurd (omega arith)
ends-along K f (x ∷ xs) t s a h (suc n) l =
    let e = first_is f t x xs h in
    let on = ends-along K f xs (suc t) (next_of s x) (rw e (at_next K f t s a)) (follows_on f t x xs h) n (omega arith) in
    subst (λ i. At K f i (ends modulator_out next_of (next_of s x) (take n xs))) (omega arith) on
