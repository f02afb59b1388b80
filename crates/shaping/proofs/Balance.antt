-- A whole number as what is above zero less what is below, so that equations of sums and multiples are omega's.
use mathlib.Core.Path.{◌≡◌, refl, ap}
use mathlib.Core.Bool.{Bool, true, false}
use Prim.Native.Nat.{ℕ, zero, suc, ◌+◌, ◌*◌}
use native.Mathlib.Nat.{mul-zero}
use native.Mathlib.Omega.{arith}
use lib.Dec.{ltb}
use lib.IntN.{ℤ, pos, negsuc, neg_ℤ, sub_ℕ, ◌+ℤ◌, ◌-ℤ◌, ◌*ℤ◌}
use borrow.Author.Tests.{ltb-true, ltb-false}

abbrev pub above : ℤ → ℕ
above (pos n) = n
above (negsuc n) = 0

abbrev pub below : ℤ → ℕ
below (pos n) = 0
below (negsuc n) = suc n

pub balanced : (a b : ℤ) → above a + below b ≡ above b + below a → a ≡ b
balanced (pos m) (pos n) h = let e : m ≡ n = omega arith in ap pos e
balanced (pos m) (negsuc n) h = absurd (omega arith)
balanced (negsuc m) (pos n) h = absurd (omega arith)
balanced (negsuc m) (negsuc n) h = let e : m ≡ n = omega arith in ap negsuc e

of_sub : (m n : ℕ) → above (sub_ℕ m n) + n ≡ m + below (sub_ℕ m n)
of_sub m n = pick (ltb m n) refl
  where
    pick : (t : Bool) → ltb m n ≡ t → above (sub_ℕ m n) + n ≡ m + below (sub_ℕ m n)
    pick true t = let k = ltb-true m n t in rw t (omega arith)
    pick false t = let k = ltb-false m n t in rw t (omega arith)

pub of_add : (a b : ℤ) → above (a +ℤ b) + below a + below b ≡ above a + above b + below (a +ℤ b)
of_add (pos m) (pos n) = omega arith
of_add (pos m) (negsuc n) = let e = of_sub m (suc n) in omega arith
of_add (negsuc m) (pos n) = let e = of_sub n (suc m) in omega arith
of_add (negsuc m) (negsuc n) = omega arith

of_neg : (a : ℤ) → above (neg_ℤ a) + above a ≡ below a + below (neg_ℤ a)
of_neg (pos zero) = omega arith
of_neg (pos (suc n)) = omega arith
of_neg (negsuc n) = omega arith

pub of_minus : (a b : ℤ) → above (a -ℤ b) + below a + above b ≡ above a + below b + below (a -ℤ b)
of_minus a b = let e = of_add a (neg_ℤ b) in let f = of_neg b in omega arith

down : (n : ℕ) → (above (neg_ℤ (pos n)) ≡ 0) × (below (neg_ℤ (pos n)) ≡ n)
down zero = (refl, refl)
down (suc n) = (refl, refl)

pub of_times : (m : ℕ) (a : ℤ) → (above (pos m *ℤ a) ≡ m * above a) × (below (pos m *ℤ a) ≡ m * below a)
of_times m (pos n) = let e : m * 0 ≡ 0 = mul-zero m in rw e (refl, refl)
of_times m (negsuc n) = let e : m * 0 ≡ 0 = mul-zero m in rw e (down (m * suc n))
