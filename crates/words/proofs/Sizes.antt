-- How large sums, differences, products and quotients of words are, and whole numbers counted from an offset,
-- so that their sums and orders are omega's.
use Rattle.std.proofs.Common.{◌≡◌, ℕ, zero, suc, ◌+◌, ◌-◌, ◌*◌, ◌^◌, ◌<◌, ◌≤◌, Bool, true, false, ltb, ℤ, pos, negsuc, ◌+ℤ◌, ◌-ℤ◌, ◌*ℤ◌, neg_ℤ, refl, mul-le-mul, arith, w32, w64, SFits, ltb-false, ltb-true, le-ltb}
use lib.IntN.{sub_ℕ}
use lib.Signed.{mag, lt_z, shr_z}

pub widen : {z : ℤ} → SFits w32 z → SFits w64 z
widen h = record { sfits = omega (arith, h.sfits) }

-- a word lies between the least and the greatest
pub not_below : (z : ℤ) → SFits w32 z → lt_z z (negsuc 2147483647) ≡ false
not_below (pos n) h = refl
not_below (negsuc n) h = le-ltb 2147483647 n (let k = h.sfits in omega arith)

pub not_above : (z : ℤ) → SFits w32 z → lt_z (pos 2147483647) z ≡ false
not_above (pos n) h = le-ltb 2147483647 n (let k = h.sfits in omega arith)
not_above (negsuc n) h = refl

-- z + B, where z is not below - B
abbrev pub off : ℕ → ℤ → ℕ
off B (pos n) = B + n
off B (negsuc n) = B - suc n

off_sub : (B m n : ℕ) → n ≤ B → off B (sub_ℕ m n) + n ≡ B + m
off_sub B m n h = pick (ltb m n) refl
  where
    pick : (b : Bool) → ltb m n ≡ b → off B (sub_ℕ m n) + n ≡ B + m
    pick true t = let k = ltb-true m n t in rw t (omega arith)
    pick false t = let k = ltb-false m n t in rw t (omega arith)

pub off_add : (B : ℕ) (a b : ℤ) → mag a + mag b + 2 ≤ B → off B (a +ℤ b) + B ≡ off B a + off B b
off_add B (pos m) (pos n) h = omega arith
off_add B (pos m) (negsuc n) h = let e = off_sub B m (suc n) (omega arith) in omega arith
off_add B (negsuc m) (pos n) h = let e = off_sub B n (suc m) (omega arith) in omega arith
off_add B (negsuc m) (negsuc n) h = omega arith

off_neg : (B : ℕ) (a : ℤ) → mag a + 1 ≤ B → off B (neg_ℤ a) + off B a ≡ B + B
off_neg B (pos zero) h = omega arith
off_neg B (pos (suc n)) h = omega arith
off_neg B (negsuc n) h = omega arith

mag_neg : (a : ℤ) → mag (neg_ℤ a) ≤ mag a + 1
mag_neg (pos zero) = omega arith
mag_neg (pos (suc n)) = omega arith
mag_neg (negsuc n) = omega arith

pub off_minus : (B : ℕ) (a b : ℤ) → mag a + mag b + 3 ≤ B → off B (a -ℤ b) + off B b ≡ off B a + B
off_minus B a b h =
    let m = mag_neg b in
    let e = off_add B a (neg_ℤ b) (omega arith) in
    let f = off_neg B b (omega arith) in
    omega arith

mag_sub : (m n : ℕ) → mag (sub_ℕ m n) ≤ m + n
mag_sub m n = pick (ltb m n) refl
  where
    pick : (b : Bool) → ltb m n ≡ b → mag (sub_ℕ m n) ≤ m + n
    pick true t = rw t (omega arith)
    pick false t = rw t (omega arith)

pub mag_add : (a b : ℤ) → mag (a +ℤ b) ≤ mag a + mag b + 1
mag_add (pos m) (pos n) = omega arith
mag_add (pos m) (negsuc n) = let h = mag_sub m (suc n) in omega arith
mag_add (negsuc m) (pos n) = let h = mag_sub n (suc m) in omega arith
mag_add (negsuc m) (negsuc n) = omega arith

mag_sub2 : (m n : ℕ) → mag (sub_ℕ (suc m) (suc n)) ≤ m + n + 1
mag_sub2 m n = pick (ltb (suc m) (suc n)) refl
  where
    pick : (b : Bool) → ltb (suc m) (suc n) ≡ b → mag (sub_ℕ (suc m) (suc n)) ≤ m + n + 1
    pick true t = rw t (omega arith)
    pick false t = rw t (omega arith)

pub mag_minus : (a b : ℤ) → mag (a -ℤ b) ≤ mag a + mag b + 1
mag_minus (pos m) (pos zero) = omega arith
mag_minus (pos m) (pos (suc n)) = let h = mag_sub m (suc n) in omega arith
mag_minus (pos m) (negsuc n) = omega arith
mag_minus (negsuc m) (pos zero) = let h = mag_sub 0 (suc m) in omega arith
mag_minus (negsuc m) (pos (suc n)) = omega arith
mag_minus (negsuc m) (negsuc n) = let h = mag_sub2 n m in omega arith

pub sum_fits : (a b : ℤ) → SFits w32 a → SFits w32 b → SFits w64 (a +ℤ b)
sum_fits a b ha hb = let h = mag_add a b in let p = ha.sfits in let q = hb.sfits in record { sfits = omega arith }

-- two words' product is below 2 ^ 64
pub words_product : {a b : ℕ} → a < 2 ^ 32 → b < 2 ^ 32 → a * b < 2 ^ 64
words_product {a} {b} ha hb =
    let p : a ≤ 2 ^ 32 - 1 = omega arith in
    let q : b ≤ 2 ^ 32 - 1 = omega arith in
    let k : a * b ≤ (2 ^ 32 - 1) * (2 ^ 32 - 1) = mul-le-mul p q in
    omega arith

neg_fits : (n : ℕ) → n ≤ 2 ^ 63 → SFits w64 (neg_ℤ (pos n))
neg_fits zero h = record { sfits = omega arith }
neg_fits (suc n) h = record { sfits = omega arith }

-- a number of up to 32 bits times a signed one
pub low_product_fits : (a : ℕ) (b : ℤ) → a < 2 ^ 32 → SFits w32 b → SFits w64 (pos a *ℤ b)
low_product_fits a (pos n) ha hb =
    let q = hb.sfits in
    let p : a ≤ 2 ^ 32 - 1 = omega arith in
    let r : n ≤ 2 ^ 31 - 1 = omega arith in
    let k : a * n ≤ (2 ^ 32 - 1) * (2 ^ 31 - 1) = mul-le-mul p r in
    record { sfits = omega arith }
low_product_fits a (negsuc n) ha hb =
    let q = hb.sfits in
    let p : a ≤ 2 ^ 32 - 1 = omega arith in
    let r : suc n ≤ 2 ^ 31 = omega arith in
    let k : a * suc n ≤ (2 ^ 32 - 1) * 2 ^ 31 = mul-le-mul p r in
    neg_fits (a * suc n) (omega arith)

pub product_fits : (a b : ℤ) → SFits w32 a → SFits w32 b → SFits w64 (a *ℤ b)
product_fits (pos m) b ha hb = let p = ha.sfits in low_product_fits m b (omega arith) hb
product_fits (negsuc m) (pos n) ha hb =
    let p = ha.sfits in let q = hb.sfits in
    let r : suc m ≤ 2 ^ 31 = omega arith in
    let s : n ≤ 2 ^ 31 = omega arith in
    let k : suc m * n ≤ 2 ^ 31 * 2 ^ 31 = mul-le-mul r s in
    neg_fits (suc m * n) (omega arith)
product_fits (negsuc m) (negsuc n) ha hb =
    let p = ha.sfits in let q = hb.sfits in
    let r : suc m ≤ 2 ^ 31 = omega arith in
    let s : suc n ≤ 2 ^ 31 = omega arith in
    let k : suc m * suc n ≤ 2 ^ 31 * 2 ^ 31 = mul-le-mul r s in
    record { sfits = omega arith }

-- a high word fits a word
pub high_fits : (z : ℤ) → SFits w64 z → SFits w32 (shr_z z (2 ^ 32))
high_fits (pos n) h = let p = h.sfits in record { sfits = omega arith }
high_fits (negsuc n) h = let p = h.sfits in record { sfits = omega arith }
