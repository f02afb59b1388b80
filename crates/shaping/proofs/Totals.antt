-- The first accumulator's carry is what its sum lost, and the output is that carry and the growth of the last retained cell:
-- so what a step takes in is in its output or still in these two cells.
use mathlib.Core.Path.{◌≡◌, refl, ap}
use mathlib.Core.List.{List, [], ◌∷◌, ◌++◌}
use Prim.Native.Nat.{ℕ, zero, suc, ◌+◌, ◌*◌, ◌/◌, ◌%◌, ◌^◌, ◌<◌, ◌≤◌}
use native.Mathlib.Nat.{div-add-mod'}
use native.Mathlib.Omega.{arith}
use lib.IntN.{ℤ, pos, ◌+ℤ◌, ◌-ℤ◌, ◌*ℤ◌}
use lib.ListN.{length, take, drop, get_or, get_or-replicate}
use Rattle.blocks.specs.Scan.{scan, ends}
use Rattle.dsm.specs.declared.Dsm.{Dsm}
use Rattle.dsm.specs.Modulator.{accumulated, carries, combined, retaining, output, keeping, modulator_out, next_of}
use Rattle.dsm.specs.Calls.{zeros_of}
use Rattle.shaping.specs.Totals.{total_in, total_out, last_of, last_used, first_accumulator, Totals}
use Rattle.shaping.proofs.Balance.{above, below, balanced, of_add, of_minus, of_times}
use Rattle.dsm.proofs.Shapes.{length-keeping, whole, used}

-- one carry more at the end meets one cell more
pub combined-more : (y : ℤ) (cs : List ℕ) (c : ℕ) (l : List ℤ) → length cs < length l
    → combined y (cs ++ (c ∷ [])) l ≡ pos c +ℤ combined y cs l -ℤ get_or l (length cs) (pos 0)
unfolding combined
combined-more y [] c [] h = absurd (omega arith)
combined-more y [] c (r ∷ l) h = refl
combined-more y (d ∷ cs) c [] h = absurd (omega arith)
combined-more y (d ∷ cs) c (r ∷ l) h = combined-more (pos d +ℤ y -ℤ r) cs c l (omega arith)

pub retaining-more : (y : ℤ) (cs : List ℕ) (c : ℕ) (l : List ℤ) → length cs < length l
    → get_or (retaining y (cs ++ (c ∷ [])) l) (length cs) (pos 0) ≡ combined y cs l
unfolding combined retaining
retaining-more y [] c [] h = absurd (omega arith)
retaining-more y [] c (r ∷ l) h = refl
retaining-more y (d ∷ cs) c [] h = absurd (omega arith)
retaining-more y (d ∷ cs) c (r ∷ l) h = retaining-more (pos d +ℤ y -ℤ r) cs c l (omega arith)

-- the first carry c and what the carries after it give
pub first_carry : (cs : List ℕ) (c : ℕ) (l : List ℤ) → length cs ≤ length l
    → output (cs ++ (c ∷ [])) l ≡ pos c +ℤ last_of (suc (length cs)) (keeping (cs ++ (c ∷ [])) l) -ℤ last_of (suc (length cs)) l
unfolding output keeping combined
first_carry [] c l h = ap pos (omega arith)
first_carry (d ∷ cs) c l h = rw (retaining-more (pos d) cs c l (omega arith)) (combined-more (pos d) cs c l (omega arith))

-- a step's output and first accumulator
stage : (n x : ℕ) (k : List ℕ) (l : List ℤ) → suc n ≤ length k → n ≤ length l
    → (output (carries x (take (suc n) k)) l
    ≡ pos ((get_or k 0 0 + x) / 2 ^ 32) +ℤ last_of (suc n) (keeping (carries x (take (suc n) k)) l) -ℤ last_of (suc n) l)
    × (get_or (accumulated x (take (suc n) k) ++ drop (suc n) k) 0 0 ≡ (get_or k 0 0 + x) % 2 ^ 32)
unfolding carries accumulated
stage n x [] l h g = absurd (omega arith)
stage n x (a ∷ k) l h g =
    let e : length (carries ((a + x) % 2 ^ 32) (take n k)) ≡ n = used n ((a + x) % 2 ^ 32) k (omega arith) in
    (rw e at (first_carry (carries ((a + x) % 2 ^ 32) (take n k)) ((a + x) / 2 ^ 32) l (omega arith)), refl)

-- what the first accumulator and the last retained cell hold
held : Dsm → ℤ
held s = pos (first_accumulator s) -ℤ pos (2 ^ 32) *ℤ last_used s

record Roomy (n : ℕ) (s : Dsm) : Type 0 where
  order : s.order ≡ suc n
  accumulators : suc n ≤ length s.accumulators
  retained : n ≤ length s.retained

roomy_next : (n : ℕ) (s : Dsm) (x : ℕ) → Roomy n s → Roomy n (next_of s x)
unfolding next_of
roomy_next n s x r = record {
  order = r.order;
  accumulators = rw (whole s.order x s.accumulators) r.accumulators;
  retained = rw (length-keeping _ s.retained) r.retained;
}

-- with M = 2 ^ 32: x + a - M r = M y + a' - M r' where a + x = M c + a' and y = c + r' - r
weigh : (x a a' c : ℕ) (y r r' : ℤ) → c * 2 ^ 32 + a' ≡ a + x → y ≡ pos c +ℤ r' -ℤ r
    → pos x +ℤ (pos a -ℤ pos (2 ^ 32) *ℤ r) ≡ pos (2 ^ 32) *ℤ y +ℤ (pos a' -ℤ pos (2 ^ 32) *ℤ r')
weigh x a a' c y r r' e f =
    let p = of_times (2 ^ 32) r in
    let q = of_times (2 ^ 32) r' in
    let t = of_times (2 ^ 32) y in
    let g = of_minus (pos a) (pos (2 ^ 32) *ℤ r) in
    let h = of_add (pos x) (pos a -ℤ pos (2 ^ 32) *ℤ r) in
    let i = of_minus (pos a') (pos (2 ^ 32) *ℤ r') in
    let j = of_add (pos (2 ^ 32) *ℤ y) (pos a' -ℤ pos (2 ^ 32) *ℤ r') in
    let k = of_add (pos c) r' in
    let l = of_minus (pos c +ℤ r') r in
    let u = ap above f in
    let v = ap below f in
    balanced (pos x +ℤ (pos a -ℤ pos (2 ^ 32) *ℤ r)) (pos (2 ^ 32) *ℤ y +ℤ (pos a' -ℤ pos (2 ^ 32) *ℤ r')) (omega arith)

conserve : (n : ℕ) (s : Dsm) (x : ℕ) → Roomy n s → pos x +ℤ held s ≡ pos (2 ^ 32) *ℤ modulator_out s x +ℤ held (next_of s x)
unfolding held modulator_out next_of
conserve n s x r =
    let t = stage n x s.accumulators s.retained r.accumulators r.retained in
    weigh x (first_accumulator s) (first_accumulator (next_of s x)) ((first_accumulator s + x) / 2 ^ 32) (modulator_out s x) (last_used s)
    (last_used (next_of s x))
    (rw (r.order, t.1) (div-add-mod' (first_accumulator s + x) (2 ^ 32))) (rw r.order t.0)

-- with M = 2 ^ 32: from x + h = M y + h' and t + h' = M u + k
gather : (x t : ℕ) (y u h h' k : ℤ) → pos x +ℤ h ≡ pos (2 ^ 32) *ℤ y +ℤ h' → pos t +ℤ h' ≡ pos (2 ^ 32) *ℤ u +ℤ k
    → pos (x + t) +ℤ h ≡ pos (2 ^ 32) *ℤ (y +ℤ u) +ℤ k
gather x t y u h h' k e f =
    let a = of_add (pos x) h in
    let b = of_times (2 ^ 32) y in
    let c = of_add (pos (2 ^ 32) *ℤ y) h' in
    let d = of_add (pos t) h' in
    let g = of_times (2 ^ 32) u in
    let i = of_add (pos (2 ^ 32) *ℤ u) k in
    let j = of_add y u in
    let l = of_times (2 ^ 32) (y +ℤ u) in
    let m = of_add (pos (x + t)) h in
    let n = of_add (pos (2 ^ 32) *ℤ (y +ℤ u)) k in
    let e1 = ap above e in let e2 = ap below e in
    let f1 = ap above f in let f2 = ap below f in
    balanced (pos (x + t) +ℤ h) (pos (2 ^ 32) *ℤ (y +ℤ u) +ℤ k) (omega arith)

conserved : (n : ℕ) (s : Dsm) (xs : List ℕ) → Roomy n s
    → pos (total_in xs) +ℤ held s ≡ pos (2 ^ 32) *ℤ total_out (scan modulator_out next_of s xs) +ℤ held (ends modulator_out next_of s xs)
conserved n s [] r = refl
conserved n s (x ∷ xs) r =
    gather x (total_in xs) (modulator_out s x) (total_out (scan modulator_out next_of (next_of s x) xs)) (held s) (held (next_of s x))
    (held (ends modulator_out next_of (next_of s x) xs))
    (conserve n s x r) (conserved n (next_of s x) xs (roomy_next n s x r))

roomy_zero : (n : ℕ) → suc n ≤ 8 → Roomy n (zeros_of (suc n))
roomy_zero n h = record {
  order = refl;
  accumulators = h;
  retained = omega arith;
}

last-zero : (K : ℕ) → K ≤ 8 → last_used (zeros_of K) ≡ pos 0
last-zero zero h = refl
last-zero (suc zero) h = refl
last-zero (suc (suc k)) h = get_or-replicate 8 k (pos 0) (pos 0) (omega arith)

-- with M = 2 ^ 32: t + (0 - M 0) = M u + (a - M r) says t = M (u - r) + a
settle : (t a : ℕ) (u r z : ℤ) → z ≡ pos 0 → pos t +ℤ (pos 0 -ℤ pos (2 ^ 32) *ℤ z) ≡ pos (2 ^ 32) *ℤ u +ℤ (pos a -ℤ pos (2 ^ 32) *ℤ r)
    → pos t ≡ pos (2 ^ 32) *ℤ (u -ℤ r) +ℤ pos a
settle t a u r z e f =
    let g = rw e at f in
    let b = of_times (2 ^ 32) u in
    let c = of_times (2 ^ 32) r in
    let d = of_minus (pos a) (pos (2 ^ 32) *ℤ r) in
    let h = of_add (pos (2 ^ 32) *ℤ u) (pos a -ℤ pos (2 ^ 32) *ℤ r) in
    let i = of_minus u r in
    let j = of_times (2 ^ 32) (u -ℤ r) in
    let k = of_add (pos (2 ^ 32) *ℤ (u -ℤ r)) (pos a) in
    let l = ap above g in let m = ap below g in
    balanced (pos t) (pos (2 ^ 32) *ℤ (u -ℤ r) +ℤ pos a) (omega arith)

pub totals : Totals
unfolding held
totals zero xs h k = absurd (omega arith)
totals (suc n) xs h k =
    let s = ends modulator_out next_of (zeros_of (suc n)) xs in
    settle (total_in xs) (first_accumulator s) (total_out (scan modulator_out next_of (zeros_of (suc n)) xs)) (last_used s)
    (last_used (zeros_of (suc n))) (last-zero (suc n) k)
    (conserved n (zeros_of (suc n)) xs (roomy_zero n k))
