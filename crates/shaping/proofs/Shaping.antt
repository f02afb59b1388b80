-- Calls in any mixture come to one list of steps, whose cells are the stages' sequences (Tracking); so the stages' equation (Stages) is the
-- outputs'. A K-th difference of numbers of one sign below B is below 2 ^ (K - 1) · B: that gives the bound.
use mathlib.Core.Path.{◌≡◌, refl, sym, ap, ap₂, ◌∙◌, subst}
use mathlib.Core.Bool.{Bool, true, false, cond}
use mathlib.Core.List.{List, [], ◌∷◌, ◌++◌}
use mathlib.Core.Logic.{◌⊎◌, inl, inr, ⊎_elim}
use Prim.Native.Nat.{ℕ, zero, suc, ◌+◌, ◌-◌, ◌*◌, ◌^◌, ◌<◌, ◌≤◌}
use native.Mathlib.Nat.{mod-lt, pow-suc, zero-add}
use native.Mathlib.Omega.{arith}
use lib.Dec.{eqb}
use lib.IntN.{ℤ, pos, negsuc, nat_abs, ◌-ℤ◌, ◌*ℤ◌}
use lib.Pow.{pow_pos, pow-add}
use lib.ListN.{length, take, get_or, replicate, length-replicate}
use lib.Seq.{get_or-take}
use borrow.Author.Tests.{le-ltb}
use Rattle.std.specs.Prelude.{Result, Ok}
use Rattle.blocks.specs.declared.refusal.Refusal.{Refusal}
use Rattle.blocks.specs.Refusals.{answer}
use Rattle.blocks.proofs.Refusals.{taken_value}
use Rattle.blocks.specs.Blocks.{unless}
use Rattle.blocks.specs.Scan.{scan, ends}
use Rattle.dsm.specs.declared.Dsm.{Dsm}
use Rattle.dsm.specs.Modulator.{modulator_out, next_of, inside, inside_from}
use Rattle.dsm.specs.Calls.{zeros_of, order_number, state_number, run_number, modulator_step}
use Rattle.shaping.specs.Totals.{modulated, modulator_after}
use Rattle.shaping.specs.Shaping.{took_in, gave_out, when_done, Called, OneList}
use Rattle.shaping.specs.Shaping.{last_accumulator, accumulator_at, backwards, NoiseShaped, NearInput}
use Rattle.shaping.proofs.Balance.{above, below, of_minus}
use Rattle.dsm.proofs.Ranges.{Near, near-inside, all}
use Rattle.dsm.proofs.Refusals as Refusals
use Rattle.shaping.proofs.Stages.{pre, post, outs, lasts, shaped}
use Rattle.shaping.proofs.Tracking.{accs, At, at_zero, Follows, outs_along, ends-along}

-- ---- the calls are one list of steps

-- what it comes to, from s on
abbrev One : Dsm → List ℕ → List ℤ → Dsm → Type 0
One s xs ys t = (ys ≡ scan modulator_out next_of s xs) × (t ≡ ends modulator_out next_of s xs)

one-step : (s : Dsm) (x : ℕ) (o : Result ℤ Refusal) (u t : Dsm) (xs : List ℕ) (ys : List ℤ) → o ≡ Ok (modulator_out s x) → u ≡ next_of s x
    → One u xs ys t → One s (took_in o x ++ xs) (gave_out o ++ ys) t
one-step s x o u t xs ys e f h =
    let k : One (next_of s x) xs ys t = rw f at h in
    rw e (ap (λ (l : List ℤ). modulator_out s x ∷ l) k.0, k.1)

then : (s : Dsm) (us xs : List ℕ) (ys : List ℤ) (t : Dsm) → One (ends modulator_out next_of s us) xs ys t
    → One s (us ++ xs) (scan modulator_out next_of s us ++ ys) t
then s [] xs ys t h = h
then s (u ∷ us) xs ys t h =
    let k = then (next_of s u) us xs ys t h in
    (ap (λ (l : List ℤ). modulator_out s u ∷ l) k.0, k.1)

one_block : (s : Dsm) (us xs : List ℕ) (lent zs ys : List ℤ) (v : Result (Unit {0}) Refusal) (u t : Dsm) (b : Bool) → v ≡ answer (cond b 0 31) tt
    → u ≡ unless (cond b 0 31) s (ends modulator_out next_of s us) → zs ≡ unless (cond b 0 31) lent (scan modulator_out next_of s us)
    → One u xs ys t → One s (when_done v us ++ xs) (when_done v zs ++ ys) t
unfolding answer
one_block s us xs lent zs ys v u t true e f g h = rw (e, g) (then s us xs ys t (rw f at h))
one_block s us xs lent zs ys v u t false e f g h = rw e (rw f at h)

-- an accepted state's block is refused for its lengths alone
run-number : (s : Dsm) (xs : List ℕ) (ys : List ℤ) → state_number s ≡ 0 → run_number s xs ys ≡ cond (eqb (length xs) (length ys)) 0 31
unfolding run_number
run-number s xs ys ok = rw (le-ltb 8 s.order (Refusals.none-order s ok), Refusals.none_lying s ok)

step_gives : (s : Dsm) (x : ℕ) → state_number s ≡ 0 → (modulator_step s x).1 ≡ Ok (modulator_out s x)
unfolding answer
step_gives s x ok = rw ok

step-leaves : (s : Dsm) (x : ℕ) → state_number s ≡ 0 → (modulator_step s x).0 ≡ next_of s x
step-leaves s x ok = rw ok

one : {s t : Dsm} {xs : List ℕ} {ys : List ℤ} → state_number s ≡ 0 → Called s xs ys t → One s xs ys t
one ok Called.none = (refl, refl)
one {s} {t} ok (Called.step {xs = xs} {ys = ys} x u r p rest) =
    one-step s x r u t xs ys (p.out ∙ step_gives s x ok) (p.state ∙ step-leaves s x ok) (one (p.keeps.accepted ∙ ok) rest)
one {s} {t} ok (Called.block {xs = xs} {ys = ys} us lent u r zs p rest) =
    let k = run-number s us lent ok in
    one_block s us xs lent zs ys r u t (eqb (length us) (length lent))
    (rw k at p.verdict) (rw k at p.state) (rw k at p.written) (one (p.keeps.accepted ∙ ok) rest)

-- a new modulator is accepted
zeros_inside : (j n k : ℕ) → j + n ≤ 8 → inside_from j (take n (replicate k (pos 0))) ≡ true
unfolding inside_from
zeros_inside j zero k h = refl
zeros_inside j (suc n) zero h = refl
zeros_inside j (suc n) (suc k) h =
    let z : Near j (pos 0) = record { low = omega (arith, pow_pos j); high = omega arith } in
    all (inside j (pos 0)) (inside_from (suc j) (take n (replicate k (pos 0)))) (near-inside j (pos 0) (omega arith) z)
    (zeros_inside (suc j) n k (omega arith))

new-accepted : (K : ℕ) → K ≤ 8 → state_number (zeros_of K) ≡ 0
new-accepted K h = Refusals.none (zeros_of K) h (zeros_inside 0 (K - 1) 8 (omega arith))

pub one_list : OneList
one_list K xs ys t h c =
    let e = taken_value (order_number K) (zeros_of K) c.start (sym c.made) in
    one (new-accepted K h) (subst (λ (s : Dsm). Called s xs ys t) e c.called)

-- ---- the last accumulator

accs_last : (a : ℕ) (k : List ℕ) (f : ℕ → ℕ) (t : ℕ) → get_or (accs (a ∷ k) f (suc t)) (length k) 0 ≡ lasts (a ∷ k) f t
unfolding accs lasts post
accs_last a [] f t = refl
accs_last a (b ∷ k) f t = accs_last b k (post a f) t

last_at : (n : ℕ) (f : ℕ → ℕ) (t : ℕ) (s : Dsm) → At (suc n) f (suc t) s → last_accumulator s ≡ lasts (replicate (suc n) 0) f t
last_at n f t s a =
    let cells = s.accumulators in
    let e : get_or (take (suc n) cells) n 0 ≡ get_or cells n 0 = get_or-take (suc n) cells n 0 (omega arith) in
    let d : suc n - 1 ≡ n = omega arith in
    ap (λ (o : ℕ). get_or s.accumulators (o - 1) 0) a.order
    ∙ ap (λ (i : ℕ). get_or s.accumulators i 0) d
    ∙ sym e
    ∙ ap (λ (l : List ℕ). get_or l n 0) a.contents
    ∙ ap (λ (i : ℕ). get_or (accs (replicate (suc n) 0) f (suc t)) i 0) (sym (length-replicate n 0))
    ∙ accs_last 0 (replicate n 0) f t

back-same : (k : ℕ) (g h : ℕ → ℤ) (t : ℕ) → ((i : ℕ) → i ≤ t → g i ≡ h i) → backwards k g t ≡ backwards k h t
back-same zero g h t p = p t (omega arith)
back-same (suc k) g h zero p = back-same k g h 0 p
back-same (suc k) g h (suc t) p = ap₂ ◌-ℤ◌ (back-same k g h (suc t) p) (back-same k g h t (λ i l. p i (omega arith)))

follows : (xs : List ℕ) → Follows (λ i. get_or xs i 0) 0 xs
follows xs i l = ap (λ (j : ℕ). get_or xs j 0) (sym (zero-add i))

at_list : (n : ℕ) (xs : List ℕ) → suc n ≤ 8 → (t : ℕ) → t < length xs
    → accumulator_at (suc n) xs t ≡ pos (lasts (replicate (suc n) 0) (λ i. get_or xs i 0) t)
at_list n xs h t l =
    let f : ℕ → ℕ = λ i. get_or xs i 0 in
    let s = modulator_after (suc n) (take (suc t) xs) in
    let a = ends-along (suc n) f xs 0 (zeros_of (suc n)) (at_zero (suc n) f h) (follows xs) (suc t) (omega arith) in
    ap pos (last_at n f t s (subst (λ i. At (suc n) f i s) (zero-add (suc t)) a))

shaped_list : (n : ℕ) (xs : List ℕ) → suc n ≤ 8 → (t : ℕ) → t < length xs
    → pos (2 ^ 32) *ℤ get_or (modulated (suc n) xs) t (pos 0) ≡ pos (get_or xs t 0) -ℤ backwards (suc n) (accumulator_at (suc n) xs) t
shaped_list n xs k t l =
    let f : ℕ → ℕ = λ i. get_or xs i 0 in
    let g : ℕ → ℤ = λ i. pos (lasts (replicate (suc n) 0) f i) in
    let o = outs_along (suc n) f xs 0 (zeros_of (suc n)) (at_zero (suc n) f k) (follows xs) t l in
    ap (λ y. pos (2 ^ 32) *ℤ y) (o ∙ ap (outs (replicate (suc n) 0) f) (zero-add t))
    ∙ shaped (suc n) f t
    ∙ ap (λ y. pos (get_or xs t 0) -ℤ y) (sym (back-same (suc n) (accumulator_at (suc n) xs) g t (λ i m. at_list n xs k i (omega arith))))

pub noise_shaped : NoiseShaped
noise_shaped zero xs ys s h k c t l = absurd (omega arith)
noise_shaped (suc n) xs ys s h k c t l = rw (one_list (suc n) xs ys s k c).0 (shaped_list n xs k t l)

-- ---- the bound

abs_is : (z : ℤ) → nat_abs z ≡ above z + below z
abs_is (pos n) = omega arith
abs_is (negsuc n) = omega arith

one_side : (z : ℤ) → (above z ≡ 0) ⊎ (below z ≡ 0)
one_side (pos n) = inr refl
one_side (negsuc n) = inl refl

-- numbers of one side differ by less than the bound of both
apart : (a b B : ℕ) → a < B → b < B → nat_abs (pos a -ℤ pos b) < B
apart a b B h k =
    let e = of_minus (pos a) (pos b) in
    rw (abs_is (pos a -ℤ pos b)) (⊎_elim (λ z. omega arith) (λ z. omega arith) (one_side (pos a -ℤ pos b)))

apart_twice : (a b : ℤ) (B : ℕ) → nat_abs a < B → nat_abs b < B → nat_abs (a -ℤ b) < B + B
apart_twice a b B h k =
    let e = of_minus a b in let p = abs_is a in let q = abs_is b in
    rw (abs_is (a -ℤ b)) (⊎_elim (λ z. omega arith) (λ z. omega arith) (one_side (a -ℤ b)))

backs_small : (n : ℕ) (h : ℕ → ℕ) (B : ℕ) → ((i : ℕ) → h i < B) → (t : ℕ) → nat_abs (backwards (suc n) (λ i. pos (h i)) t) < 2 ^ n * B
backs_small zero h B k zero = omega (arith, k 0)
backs_small zero h B k (suc t) = let e = apart (h (suc t)) (h t) B (k (suc t)) (k t) in omega arith
backs_small (suc n) h B k zero = rw (pow-suc 2 n) (omega (arith, backs_small n h B k 0))
backs_small (suc n) h B k (suc t) =
    let g : ℕ → ℤ = backwards (suc n) (λ i. pos (h i)) in
    rw (pow-suc 2 n) (omega (arith, apart_twice (g (suc t)) (g t) (2 ^ n * B) (backs_small n h B k (suc t)) (backs_small n h B k t)))

lasts_small : (a : ℕ) (k : List ℕ) (f : ℕ → ℕ) (t : ℕ) → lasts (a ∷ k) f t < 2 ^ 32
unfolding lasts post pre
lasts_small a [] f t = mod-lt (pre a f t + f t) (pow_pos 32)
lasts_small a (b ∷ k) f t = lasts_small b k (post a f) t

-- (x - b) - x is as far from zero as b
turned : (x b : ℤ) → nat_abs (x -ℤ b -ℤ x) ≡ nat_abs b
turned x b =
    let z = x -ℤ b -ℤ x in
    let e = of_minus x b in let f = of_minus (x -ℤ b) x in
    let p = abs_is z in let q = abs_is b in
    ⊎_elim
    (λ i. ⊎_elim (λ j. omega arith) (λ j. omega arith) (one_side b))
    (λ i. ⊎_elim (λ j. omega arith) (λ j. omega arith) (one_side b))
    (one_side z)

pub near-input : NearInput
near-input zero xs ys s h k c t l = absurd (omega arith)
near-input (suc n) xs ys s h k c t l =
    let f : ℕ → ℕ = λ i. get_or xs i 0 in
    let g : ℕ → ℕ = lasts (replicate (suc n) 0) f in
    let x : ℤ = pos (get_or xs t 0) in
    let p : 2 ^ (32 + suc n - 1) ≡ 2 ^ n * 2 ^ 32 = ap (λ (i : ℕ). 2 ^ i) (omega arith) ∙ pow-add 2 n 32 in
    rw (
      noise_shaped (suc n) xs ys s h k c t l,
      turned x (backwards (suc n) (accumulator_at (suc n) xs) t),
      back-same (suc n) (accumulator_at (suc n) xs) (λ i. pos (g i)) t (λ i m. at_list n xs k i (omega arith)),
      p,
    )
    (backs_small n g (2 ^ 32) (λ i. lasts_small 0 (replicate n 0) f i) t)
