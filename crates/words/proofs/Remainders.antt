-- Remainders by m: what stands for a whole number modulo m, through sums, differences and products. `mod_ℤ` picks the one below m.
use Rattle.std.proofs.Common.{◌≡◌, ℕ, zero, suc, ◌+◌, ◌-◌, ◌*◌, ◌/◌, ◌%◌, ◌<◌, ◌≤◌, Bool, true, false, ltb, ◌⊎◌, ℤ, pos, negsuc, ◌+ℤ◌, ◌*ℤ◌, neg_ℤ, sym, refl, ap, ◌∙◌, inl, inr, ⊎_elim, mod-lt, mod-eq_of_lt, mul_assoc, suc-mul, mul_comm, add-mul, div-add-mod', zero-mul, mul-add, arith, ltb-false, ltb-true}
use native.Mathlib.Nat.{add-mod, add-mod_right, mul-mod_left, mod-eq-sub-mod, mod-mod}
use native.Mathlib.Nat.{mod-add-mod, add-mod-mod, zero-mod}
use native.Mathlib.Nat.{mul-add-mod_self_right}
use lib.IntN.{sub_ℕ}
use Rattle.words.specs.Words.{mod_ℤ}

-- x and y leave the same remainder by m. A record, so that the numbers are inferred.
pub record Like (m x y : ℕ) : Type 0 where
  pub like : x % m ≡ y % m

pub is : {m x y : ℕ} → x ≡ y → Like m x y
is {m} e = record { like = ap (λ (t : ℕ). t % m) e }

pub back : {m x y : ℕ} → Like m x y → Like m y x
back p = record { like = sym p.like }

infixr 5 ◌then◌
pub ◌then◌ : {m x y z : ℕ} → Like m x y → Like m y z → Like m x z
p then q = record { like = p.like ∙ q.like }

pub plus : {m x y u v : ℕ} → Like m x y → Like m u v → Like m (x + u) (y + v)
plus {m} {x} {y} {u} {v} p q = record { like = add-mod x u m ∙ rw (p.like, q.like) (sym (add-mod y v m)) }

-- whole multiples of m leave nothing
pub multiple : (m k r : ℕ) → Like m (k * m + r) r
multiple m k r = record { like = mul-add-mod_self_right k m r }

half : (m k x : ℕ) → Like m (x * k) (x % m * k)
half m k x =
    let e : x * k ≡ x / m * k * m + x % m * k =
    ap (λ (t : ℕ). t * k) (sym (div-add-mod' x m)) ∙ add-mul (x / m * m) (x % m) k
    ∙ ap (λ (t : ℕ). t + x % m * k) (mul_assoc (x / m) m k ∙ ap (λ (t : ℕ). x / m * t) (mul_comm m k) ∙ sym (mul_assoc (x / m) k m)) in
    is e then multiple m (x / m * k) (x % m * k)

pub times : {m x y : ℕ} (k : ℕ) → Like m x y → Like m (x * k) (y * k)
times {m} {x} {y} k p = half m k x then is (ap (λ (t : ℕ). t * k) p.like) then back (half m k y)

pub times' : {m x y : ℕ} (k : ℕ) → Like m x y → Like m (k * x) (k * y)
times' {m} {x} {y} k p = is (mul_comm k x) then times k p then is (mul_comm y k)

-- what is alike by k m is alike by m
pub like_narrow : (m k : ℕ) {x y : ℕ} → Like (k * m) x y → Like m x y
like_narrow m k {x} {y} p =
    let d : x / (k * m) * k * m ≡ x / (k * m) * (k * m) = mul_assoc (x / (k * m)) k m in
    let e : y / (k * m) * k * m ≡ y / (k * m) * (k * m) = mul_assoc (y / (k * m)) k m in
    is (sym (div-add-mod' x (k * m)) ∙ ap (λ (t : ℕ). t + x % (k * m)) (sym d))
    then multiple m (x / (k * m) * k) (x % (k * m))
    then is p.like
    then back (multiple m (y / (k * m) * k) (y % (k * m)))
    then is (ap (λ (t : ℕ). t + y % (k * m)) e ∙ div-add-mod' y (k * m))

-- r stands for z modulo m
abbrev pub Rep : ℕ → ℤ → ℕ → Type 0
Rep m (pos n) r = Like m r n
Rep m (negsuc n) r = Like m (r + suc n) 0

pub rep_narrow : (m k : ℕ) (z : ℤ) (r : ℕ) → Rep (k * m) z r → Rep m z r
rep_narrow m k (pos n) r p = like_narrow m k p
rep_narrow m k (negsuc n) r p = like_narrow m k p

module _ (m : ℕ) (m₊ : 0 < m) where
  pub rep_mod : (z : ℤ) → Rep m z (mod_ℤ z m)
  rep_mod (pos n) = record { like = mod-mod n m }
  rep_mod (negsuc n) =
      let h = mod-lt n m₊ in
      let d = div-add-mod' n m in
      let e : (m - suc (n % m)) + suc n ≡ n / m * m + m = omega arith in
      is e then record { like = add-mod_right (n / m * m) m ∙ mul-mod_left (n / m) m ∙ sym (zero-mod m) }

  -- a sum below 2 m that leaves 0 is 0 or m
  none_left : (s : ℕ) → s < m + m → Like m s 0 → (s ≡ 0) ⊎ (s ≡ m)
  none_left s h e = pick (ltb s m) refl
    where
      pick : (b : Bool) → ltb s m ≡ b → (s ≡ 0) ⊎ (s ≡ m)
      pick true t = inl (sym (mod-eq_of_lt (ltb-true s m t)) ∙ e.like ∙ zero-mod m)
      pick false t =
          let k = ltb-false s m t in
          let l : s - m < m = omega arith in
          let z : s - m ≡ 0 = sym (mod-eq_of_lt l) ∙ sym (mod-eq-sub-mod k) ∙ e.like ∙ zero-mod m in
          inr (omega arith)

  same : (r t u : ℕ) → r < m → t < m → Like m (r + u) 0 → Like m (t + u) 0 → r ≡ t
  same r t u hr ht p q =
      let hu = mod-lt u m₊ in
      let p' : Like m (r + u % m) 0 = record { like = add-mod-mod r u m ∙ p.like } in
      let q' : Like m (t + u % m) 0 = record { like = add-mod-mod t u m ∙ q.like } in
      ⊎_elim
      (λ a. ⊎_elim (λ b. omega arith) (λ b. omega arith) (none_left (t + u % m) (omega arith) q'))
      (λ a. ⊎_elim (λ b. omega arith) (λ b. omega arith) (none_left (t + u % m) (omega arith) q'))
      (none_left (r + u % m) (omega arith) p')

  -- what stands for z and is below m is its remainder
  pub rep_is : (z : ℤ) (r : ℕ) → r < m → Rep m z r → r ≡ mod_ℤ z m
  rep_is (pos n) r h p = sym (mod-eq_of_lt h) ∙ p.like
  rep_is (negsuc n) r h p =
      let k = mod-lt n m₊ in
      same r (m - suc (n % m)) (suc n) h (omega arith) p (rep_mod (negsuc n))

  rep_like : (z : ℤ) {r s : ℕ} → Like m s r → Rep m z r → Rep m z s
  rep_like (pos n) e p = e then p
  rep_like (negsuc n) e p = plus e (is refl) then p

  rep_rem : (z : ℤ) (r : ℕ) → Rep m z r → Rep m z (r % m)
  rep_rem (pos n) r p = record { like = mod-mod r m ∙ p.like }
  rep_rem (negsuc n) r p = record { like = mod-add-mod r m (suc n) ∙ p.like }

  -- the remainder of what stands for z is z's
  pub rep_to : (z : ℤ) (r : ℕ) → Rep m z r → r % m ≡ mod_ℤ z m
  rep_to z r p = rep_is z (r % m) (mod-lt r m₊) (rep_rem z r p)

  rep_sub : (n k r s : ℕ) → Like m r n → Like m (s + suc k) 0 → Rep m (sub_ℕ n (suc k)) (r + s)
  rep_sub n k r s p q = pick (ltb n (suc k)) refl
    where
      pick : (b : Bool) → ltb n (suc k) ≡ b → Rep m (sub_ℕ n (suc k)) (r + s)
      pick true t =
          let h = ltb-true n (suc k) t in
          let e : n + (s + suc (suc k - suc n)) ≡ s + suc k = omega arith in
          let f : r + s + suc (suc k - suc n) ≡ r + (s + suc (suc k - suc n)) = omega arith in
          rw t (is f then plus p (is refl) then is e then q)
      pick false t =
          let h = ltb-false n (suc k) t in
          let e : n + s ≡ (s + suc k) + (n - suc k) = omega arith in
          let f : 0 + (n - suc k) ≡ n - suc k = omega arith in
          rw t (plus p (is refl) then is e then plus q (is refl) then is f)

  pub rep_add : (a b : ℤ) (r s : ℕ) → Rep m a r → Rep m b s → Rep m (a +ℤ b) (r + s)
  rep_add (pos n) (pos k) r s p q = plus p q
  rep_add (pos n) (negsuc k) r s p q = rep_sub n k r s p q
  rep_add (negsuc n) (pos k) r s p q =
      let e : r + s ≡ s + r = omega arith in rw e (rep_sub k n s r q p)
  rep_add (negsuc n) (negsuc k) r s p q =
      let e : r + s + suc (suc (n + k)) ≡ (r + suc n) + (s + suc k) = omega arith in
      is e then plus p q

  -- minus n is stood for by whatever n brings to nothing
  minus : (n r : ℕ) → Like m (r + n) 0 → Rep m (neg_ℤ (pos n)) r
  minus zero r p = let e : r ≡ r + 0 = omega arith in is e then p
  minus (suc n) r p = p

  -- what b brings to a stands for a - b
  pub rep_minus : (a b r : ℕ) → Like m (r + b) a → Rep m (pos a +ℤ neg_ℤ (pos b)) r
  rep_minus a b r p =
      let h : b ≤ b * m = le_mul_self b in
      let e : b * m - b + b ≡ b * m + 0 = omega arith in
      let f : b * m + r ≡ r + b + (b * m - b) = omega arith in
      rep_like (pos a +ℤ neg_ℤ (pos b)) (back (multiple m b r) then is f)
      (rep_add (pos a) (neg_ℤ (pos b)) (r + b) (b * m - b) p (minus b (b * m - b) (is e then multiple m b 0)))
    where
      le_mul_self : (n : ℕ) → n ≤ n * m
      le_mul_self zero = omega arith
      le_mul_self (suc n) = let k = le_mul_self n in omega (arith, suc-mul n m)

  pub rep_neg : (a : ℤ) (r s : ℕ) → Rep m a r → Like m (s + r) 0 → Rep m (neg_ℤ a) s
  rep_neg (pos n) r s p q = minus n s (plus (is refl) (back p) then q)
  rep_neg (negsuc n) r s p q =
      let e : s ≡ s + 0 = omega arith in
      let f : s + (r + suc n) ≡ (s + r) + suc n = omega arith in
      let g : 0 + suc n ≡ suc n = omega arith in
      is e then plus (is refl) (back p) then is f then plus q (is refl) then is g

  -- r stands for n, s for minus k: r s stands for minus n k
  rep_cross : (n k r s : ℕ) → Like m r n → Like m (s + k) 0 → Like m (r * s + n * k) 0
  rep_cross n k r s p q =
      let e : n * 0 ≡ 0 = omega arith in
      plus (times s p) (is refl) then is (sym (mul-add n s k)) then times' n q then is e

  -- r stands for minus n, s for minus k: r s stands for n k
  rep_both : (n k r s : ℕ) → Like m (r + n) 0 → Like m (s + k) 0 → Like m (r * s) (n * k)
  rep_both n k r s p q =
      -- r s + (r + n) k = r (s + k) + n k
      let z : (r + n) * k ≡ r * k + n * k = add-mul r n k in
      let y : r * (s + k) ≡ r * s + r * k = mul-add r s k in
      let e : r * s + 0 ≡ r * s = omega arith in
      let f : 0 * k ≡ 0 = omega arith in
      let g : r * s + (r + n) * k ≡ r * (s + k) + n * k = omega arith in
      let o : r * 0 ≡ 0 = omega arith in
      let u : 0 + n * k ≡ n * k = omega arith in
      is (sym e) then plus (is refl) (is (sym f) then times k (back p)) then is g
      then plus (times' r q then is o) (is refl) then is u

  pub rep_mul : (a b : ℤ) (r s : ℕ) → Rep m a r → Rep m b s → Rep m (a *ℤ b) (r * s)
  rep_mul (pos n) (pos k) r s p q = times s p then times' n q
  rep_mul (pos n) (negsuc k) r s p q = minus (n * suc k) (r * s) (rep_cross n (suc k) r s p q)
  rep_mul (negsuc n) (pos k) r s p q =
      minus (suc n * k) (r * s) (rw (mul_comm r s, mul_comm (suc n) k) (rep_cross k (suc n) s r q p))
  rep_mul (negsuc n) (negsuc k) r s p q = rep_both (suc n) (suc k) r s p q

-- and a number scaled by k, modulo m k
scaled-rest : (m k x : ℕ) → Like (m * k) (x * k) (x % m * k)
scaled-rest m k x =
    let d : (x / m * m + x % m) * k ≡ x * k = ap (λ (t : ℕ). t * k) (div-add-mod' x m) in
    let e : x * k ≡ x / m * (m * k) + x % m * k = omega arith in
    is e then multiple (m * k) (x / m) (x % m * k)

pub like_scaled : {m x y : ℕ} (k : ℕ) → Like m x y → Like (m * k) (x * k) (y * k)
like_scaled {m} {x} {y} k p = scaled-rest m k x then is (ap (λ (t : ℕ). t * k) p.like) then back (scaled-rest m k y)

pub rep_scaled : (m k : ℕ) → 0 < m * k → (z : ℤ) (r : ℕ) → Rep m z r → Rep (m * k) (z *ℤ pos k) (r * k)
rep_scaled m k h (pos n) r p = like_scaled k p
rep_scaled m k h (negsuc n) r p =
    let e : r * k + suc n * k ≡ (r + suc n) * k = omega arith in
    minus (m * k) h (suc n * k) (r * k) (is e then like_scaled k p then is (zero-mul k))
