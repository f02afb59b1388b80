-- The moving sum is a weighed sum: a fold adds up L late copies, and weighing passes through sums of weights and through lateness.
use mathlib.Core.Path.{◌≡◌, refl, sym, ap, ap₂, ◌∙◌, fun_ext}
use mathlib.Core.Bool.{Bool, true, false, cond}
use Prim.Native.Nat.{ℕ, zero, suc, ◌+◌, ◌-◌, ◌*◌}
use native.Mathlib.Nat.{add-mul, one-mul}
use native.Mathlib.Omega.{arith}
use lib.Dec.{leb, eqb}
use lib.IntN.{ℤ, pos, negsuc, neg_ℤ, neg_ℤ-+ℤ, ◌+ℤ◌, ◌*ℤ◌, +ℤ_idl, +ℤ_idr, +ℤ_comm, +ℤ_assoc, zero-*ℤ}
use borrow.Author.Tests.{le-leb, lt-leb, leb-true, leb-false, ne_eqb}
use Rattle.sums.specs.Signed.{exact_ops}
use Rattle.sums.specs.Moving.{last, moving}
use Rattle.fir.specs.Ways.{up_to, rest, ways}

-- ---- lateness of weights

pub rest-none : (h : ℕ → ℕ) (n : ℕ) → rest 0 h n ≡ h n
unfolding rest
rest-none h n = let e : n - 0 ≡ n = omega arith in rw (le-leb 0 n (omega arith), e)

pub rest_early : (i : ℕ) (h : ℕ → ℕ) → rest (suc i) h 0 ≡ 0
unfolding rest
rest_early i h = rw (lt-leb (suc i) 0 (omega arith))

pub rest_on : (i : ℕ) (h : ℕ → ℕ) (n : ℕ) → rest (suc i) h (suc n) ≡ rest i h n
unfolding rest
rest_on i h n =
    let d : suc n - suc i ≡ n - i = omega arith in
    ap₂ (λ (b : Bool) (m : ℕ). cond b (h m) 0) (pick (leb i n) refl) d
  where
    pick : (t : Bool) → leb i n ≡ t → leb (suc i) (suc n) ≡ t
    pick true e = le-leb (suc i) (suc n) (let k = leb-true i n e in omega arith)
    pick false e = lt-leb (suc i) (suc n) (let k = leb-false i n e in omega arith)

-- ---- lateness of sequences

late : ℕ → (ℕ → ℤ) → ℕ → ℤ
late zero f t = f t
late (suc i) f zero = pos 0
late (suc i) f (suc t) = late i f t

sum_to : ℕ → (ℕ → ℤ) → ℤ
sum_to zero g = pos 0
sum_to (suc n) g = g 0 +ℤ sum_to n (λ i. g (suc i))

sum-none : (n : ℕ) → sum_to n (λ i. pos 0) ≡ pos 0
unfolding sum_to
sum-none zero = refl
sum-none (suc n) = +ℤ_idl (sum_to n (λ i. pos 0)) ∙ sum-none n

-- the last L values are L late copies
last_late : (L : ℕ) (f : ℕ → ℤ) (t : ℕ) → last exact_ops L f t ≡ sum_to L (λ i. late i f t)
unfolding last sum_to late
last_late zero f t = refl
last_late (suc L) f zero = sym (ap (λ y. f 0 +ℤ y) (sum-none L) ∙ +ℤ_idr (f 0))
last_late (suc L) f (suc t) = ap (λ y. y +ℤ f (suc t)) (last_late L f t) ∙ +ℤ_comm (sum_to L (λ i. late i f t)) (f (suc t))

-- ---- weighing

-- the values up to number t, the one n places back times h n, added up
unfoldable pub weighs : (ℕ → ℕ) → (ℕ → ℤ) → ℕ → ℤ
weighs h x zero = pos (h 0) *ℤ x 0
weighs h x (suc t) = pos (h 0) *ℤ x (suc t) +ℤ weighs (λ n. h (suc n)) x t

medial : (a b c d : ℤ) → (a +ℤ b) +ℤ (c +ℤ d) ≡ (a +ℤ c) +ℤ (b +ℤ d)
medial a b c d =
    +ℤ_assoc a b (c +ℤ d)
    ∙ ap (λ y. a +ℤ y) (sym (+ℤ_assoc b c d) ∙ ap (λ y. y +ℤ d) (+ℤ_comm b c) ∙ +ℤ_assoc c b d)
    ∙ sym (+ℤ_assoc a c (b +ℤ d))

neg_add : (a b : ℕ) → neg_ℤ (pos a) +ℤ neg_ℤ (pos b) ≡ neg_ℤ (pos (a + b))
neg_add a b = sym (neg_ℤ-+ℤ (pos a) (pos b))

spread : (a b : ℕ) (x : ℤ) → pos (a + b) *ℤ x ≡ pos a *ℤ x +ℤ pos b *ℤ x
spread a b (pos n) = ap pos (add-mul a b n)
spread a b (negsuc n) = ap (λ (m : ℕ). neg_ℤ (pos m)) (add-mul a b (suc n)) ∙ sym (neg_add (a * suc n) (b * suc n))

weigh_sum : (h k : ℕ → ℕ) (x : ℕ → ℤ) (t : ℕ) → weighs (λ n. h n + k n) x t ≡ weighs h x t +ℤ weighs k x t
unfolding weighs
weigh_sum h k x zero = spread (h 0) (k 0) (x 0)
weigh_sum h k x (suc t) =
    ap₂ ◌+ℤ◌ (spread (h 0) (k 0) (x (suc t))) (weigh_sum (λ n. h (suc n)) (λ n. k (suc n)) x t)
    ∙ medial (pos (h 0) *ℤ x (suc t)) (pos (k 0) *ℤ x (suc t)) (weighs (λ n. h (suc n)) x t) (weighs (λ n. k (suc n)) x t)

weigh_none : (x : ℕ → ℤ) (t : ℕ) → weighs (λ n. 0) x t ≡ pos 0
unfolding weighs
weigh_none x zero = zero-*ℤ (x 0)
weigh_none x (suc t) = ap₂ ◌+ℤ◌ (zero-*ℤ (x (suc t))) (weigh_none x t)

weigh_same : (h k : ℕ → ℕ) (x : ℕ → ℤ) (t : ℕ) → ((n : ℕ) → h n ≡ k n) → weighs h x t ≡ weighs k x t
weigh_same h k x t e = ap (λ (g : ℕ → ℕ). weighs g x t) (fun_ext e)

-- late weights weigh late
weigh_late : (i : ℕ) (h : ℕ → ℕ) (x : ℕ → ℤ) (t : ℕ) → weighs (rest i h) x t ≡ late i (weighs h x) t
unfolding weighs late
weigh_late zero h x t = weigh_same (rest 0 h) h x t (rest-none h)
weigh_late (suc i) h x zero = ap (λ (m : ℕ). pos m *ℤ x 0) (rest_early i h) ∙ zero-*ℤ (x 0)
weigh_late (suc i) h x (suc t) =
    ap₂ (λ (m : ℕ) y. pos m *ℤ x (suc t) +ℤ y) (rest_early i h)
    (weigh_same (λ n. rest (suc i) h (suc n)) (rest i h) x t (rest_on i h) ∙ weigh_late i h x t)
    ∙ ap (λ y. y +ℤ late i (weighs h x) t) (zero-*ℤ (x (suc t)))
    ∙ +ℤ_idl (late i (weighs h x) t)

-- a sum of weights weighs the sum
weigh_up_to : (L : ℕ) (g : ℕ → ℕ → ℕ) (x : ℕ → ℤ) (t : ℕ) → weighs (λ n. up_to L (λ i. g i n)) x t ≡ sum_to L (λ i. weighs (g i) x t)
unfolding up_to sum_to
weigh_up_to zero g x t = weigh_none x t
weigh_up_to (suc L) g x t =
    weigh_sum (g 0) (λ n. up_to L (λ i. g (suc i) n)) x t
    ∙ ap (λ y. weighs (g 0) x t +ℤ y) (weigh_up_to L (λ i. g (suc i)) x t)

one-times : (x : ℤ) → pos 1 *ℤ x ≡ x
one-times (pos n) = ap pos (one-mul n)
one-times (negsuc n) = ap (λ (m : ℕ). neg_ℤ (pos m)) (one-mul (suc n))

one_weighs : (L : ℕ) (x : ℕ → ℤ) (t : ℕ) → weighs (ways L 0) x t ≡ x t
unfolding weighs ways
one_weighs L x zero = one-times (x 0)
one_weighs L x (suc t) =
    ap₂ ◌+ℤ◌ (one-times (x (suc t)))
    (weigh_same (λ n. cond (eqb (suc n) 0) 1 0) (λ n. 0) x t
    (λ n. ap (λ (b : Bool). cond b 1 0) (ne_eqb (suc n) 0 (λ e. omega arith))) ∙ weigh_none x t)
    ∙ +ℤ_idr (x (suc t))

pub moving_weighs : (L k : ℕ) (x : ℕ → ℤ) (t : ℕ) → moving exact_ops L k x t ≡ weighs (ways L k) x t
unfolding moving ways
moving_weighs L zero x t = sym (one_weighs L x t)
moving_weighs L (suc k) x t =
    last_late L (moving exact_ops L k x) t
    ∙ ap (λ (f : ℕ → ℤ). sum_to L (λ i. late i f t)) (fun_ext (moving_weighs L k x))
    ∙ ap (sum_to L) (fun_ext (λ i. sym (weigh_late i (ways L k) x t)))
    ∙ sym (weigh_up_to L (λ i. rest i (ways L k)) x t)
