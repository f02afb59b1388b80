-- The bits lie on the right sides of n / d, and sides leave room for one whole number.
use Rattle.std.proofs.Common.{◌≡◌, ℕ, zero, suc, ◌+◌, ◌-◌, ◌*◌, ◌/◌, ◌^◌, ◌<◌, ◌≤◌, Bool, true, false, cond, T, ltb, ℤ, pos, negsuc, ◌+ℤ◌, ◌-ℤ◌, ◌*ℤ◌, neg_ℤ, nat_abs, sym, refl, ap, ◌∙◌, suc-mul, mul_comm, zero-mul, mul-one, mul-add, div-mul-le_self, mul_left_comm, arith, ltb-false, ltb-true}
use native.Mathlib.Nat.{div-eq_of_lt-le, lt-mul-div-succ}
use lib.IntN.{sub_ℕ, neg_ℤ-neg_ℤ}
use lib.Ieee.{Float, nan, inf, fin, up, le}
use lib.Ieee.Fits.{and_r}
use lib.Ieee.Positive.{num, den, den_pos}
use Rattle.std.specs.Prelude.{Ok, Err}
use Rattle.blocks.specs.declared.refusal.Refusal.{Refusal}
use Rattle.adapters.specs.Quantize.{minus_half, plus_zero, coefficient_of, in_range, nearest_up, nearest_bits, quantized}
use Rattle.adapters.specs.Nearest.{numerator, distance, Nearest, RoundsInRange}
use Rattle.adapters.proofs.Halves.{at_most-none, nowhere, nowhere_nan}

-- k lies on the right sides of n / d: 2 k d ≤ 2 n + d < 2 k d + 2 d
record Sides (n d k : ℕ) : Type 0 where
  over : 2 * (k * d) ≤ 2 * n + d
  under : 2 * n < 2 * (k * d) + d

twice : (k d : ℕ) → k * (2 * d) ≡ 2 * (k * d)
twice k d = mul_left_comm k 2 d

once_more : (k d : ℕ) → 2 * d * (k + 1) ≡ 2 * (k * d) + 2 * d
once_more k d =
    mul-add (2 * d) k 1 ∙ ap (λ (x : ℕ). x + 2 * d * 1) (mul_comm (2 * d) k ∙ twice k d)
    ∙ ap (λ (x : ℕ). 2 * (k * d) + x) (mul-one (2 * d))

sides : (n d : ℕ) → 0 < d → Sides n d (nearest_up n d)
sides n d p =
    let k = (2 * n + d) / (2 * d) in
    let b : 0 < 2 * d = omega arith in
    let l : k * (2 * d) ≤ 2 * n + d = div-mul-le_self (2 * n + d) (2 * d) in
    let u : 2 * n + d < 2 * d * (k + 1) = lt-mul-div-succ (2 * n + d) b in
    let f = twice k d in
    let g = once_more k d in
    record { over = omega arith; under = omega arith }

sides_one : (n d k : ℕ) → 0 < d → Sides n d k → nearest_up n d ≡ k
sides_one n d k p s =
    let o = s.over in let u = s.under in
    let f = twice k d in
    let g : (k + 1) * (2 * d) ≡ 2 * (k * d) + 2 * d = mul_comm (k + 1) (2 * d) ∙ once_more k d in
    div-eq_of_lt-le (2 * d) (omega arith) (omega arith)

-- the distance of two numbers
abbrev gap : ℕ → ℕ → ℕ
gap a b = (a - b) + (b - a)

gap_sub : (n w : ℕ) → nat_abs (sub_ℕ n w) ≡ gap n w
gap_sub n w = pick (ltb n w) refl
  where
    pick : (t : Bool) → ltb n w ≡ t → nat_abs (sub_ℕ n w) ≡ gap n w
    pick true t = let k = ltb-true n w t in rw t (omega arith)
    pick false t = let k = ltb-false n w t in rw t (omega arith)

gap_neg : (w n : ℕ) → nat_abs (neg_ℤ (pos w) +ℤ pos n) ≡ gap n w
gap_neg zero n = omega arith
gap_neg (suc w) n = gap_sub n (suc w)

apart : (k d n : ℕ) → nat_abs (neg_ℤ (pos k) *ℤ pos d +ℤ pos n) ≡ gap n (k * d)
apart zero d n = let z = zero-mul d in omega arith
apart (suc k) d n = gap_neg (suc k * d) n

abs_neg : (k : ℕ) → nat_abs (neg_ℤ (pos k)) ≡ k
abs_neg zero = refl
abs_neg (suc k) = refl

on_sides : (n d k : ℕ) → 0 < d → 2 * gap n (k * d) ≤ d → (2 * gap n (k * d) ≡ d → n ≤ k * d) → Sides n d k
on_sides n d k p h f = record { over = omega arith; under = pick (ltb (2 * n) (2 * (k * d) + d)) refl }
  where
    pick : (t : Bool) → ltb (2 * n) (2 * (k * d) + d) ≡ t → 2 * n < 2 * (k * d) + d
    pick true t = ltb-true (2 * n) (2 * (k * d) + d) t
    pick false t = let l = ltb-false (2 * n) (2 * (k * d) + d) t in let g = f (omega arith) in absurd (omega arith)

-- ---- a double in range is - num a / den a

less_neg : (n k : ℕ) (x : ℤ) → x -ℤ neg_ℤ (pos n) *ℤ pos k ≡ x +ℤ pos (n * k)
less_neg zero k x = rw (zero-mul k)
less_neg (suc n) k x = rw (neg_ℤ-neg_ℤ (pos (suc n * k)))

record Below (a : Float) : Type 0 where
  less : (x : ℤ) → x -ℤ numerator a *ℤ pos (2 ^ 32) ≡ x +ℤ pos (num a * 2 ^ 32)
  size : nat_abs (numerator a) ≡ num a

below : (a : Float) → T (in_range a) → Below a
below nan h = absurd (nowhere_nan h)
below (inf s) h = absurd (nowhere s h)
below (fin true m e) h = record { less = less_neg (m * up e) (2 ^ 32); size = abs_neg (m * up e) }
below (fin false m e) h =
    let z = at_most-none m e (and_r (le minus_half (fin false m e)) (le (fin false m e) plus_zero) h) in
    let none : m * up e ≡ 0 = ap (λ (x : ℕ). x * up e) z ∙ zero-mul (up e) in
    record { less = λ x. rw none; size = refl }

-- the distance of a whole number of at most 0, and of one above it
distance_neg : (a : Float) → T (in_range a) → (k : ℕ) → distance a (neg_ℤ (pos k)) ≡ gap (num a * 2 ^ 32) (k * den a)
distance_neg a h k = ap nat_abs ((below a h).less (neg_ℤ (pos k) *ℤ pos (den a))) ∙ apart k (den a) (num a * 2 ^ 32)

distance_pos : (a : Float) → T (in_range a) → (k : ℕ) → distance a (pos k) ≡ k * den a + num a * 2 ^ 32
distance_pos a h k = ap nat_abs ((below a h).less (pos (k * den a)))

-- ---- the law

module _ (a : Float) (h : T (in_range a)) where
  bits-nearest : Nearest a (nearest_bits a)
  unfolding nearest_bits
  bits-nearest =
      let n = num a * 2 ^ 32 in let d = den a in let k = nearest_up n d in
      let s = sides n d (den_pos a) in
      let o = s.over in let u = s.under in
      record { near = rw (distance_neg a h k) (omega arith); away = rw (distance_neg a h k, abs_neg k, (below a h).size) (λ e. omega arith) }

  -- what is near and away lies on the right sides
  sided : (k : ℕ) → Nearest a (neg_ℤ (pos k)) → Sides (num a * 2 ^ 32) (den a) k
  sided k v =
      let f = distance_neg a h k in
      on_sides (num a * 2 ^ 32) (den a) k (den_pos a) (rw f at v.near) (rw (f, abs_neg k, (below a h).size) at v.away)

  only_neg : (k : ℕ) → Nearest a (neg_ℤ (pos k)) → neg_ℤ (pos k) ≡ nearest_bits a
  unfolding nearest_bits
  only_neg k v = ap (λ (j : ℕ). neg_ℤ (pos j)) (sym (sides_one (num a * 2 ^ 32) (den a) k (den_pos a) (sided k v)))

  only-nearest : (z : ℤ) → Nearest a z → z ≡ nearest_bits a
  only-nearest (pos zero) v = only_neg 0 v
  only-nearest (pos (suc k)) v =
      let p = den_pos a in let q = suc-mul k (den a) in let e = rw (distance_pos a h (suc k)) at v.near in absurd (omega arith)
  only-nearest (negsuc k) v = only_neg (suc k) v

accepted : {A : Type 0} (t : Bool) (x y : A) → T t → cond t x y ≡ x
accepted true x y h = refl
accepted false x y h = absurd h

pub rounds_in_range : RoundsInRange
unfolding quantized
rounds_in_range code g n h =
    let a = coefficient_of code g in
    record {
      bits = nearest_bits a;
      answer = rw n (accepted (in_range a) (Ok (nearest_bits a)) (Err Refusal.Coefficient) h);
      nearest = bits-nearest a h;
      only = only-nearest a h;
    }
