-- How large a moving sum can be: each fold of length L multiplies the bound by L, so that the fit answer yes leaves no output that wraps.
use mathlib.Core.Path.{◌≡◌, refl, sym, ap, subst, ◌∙◌}
use mathlib.Core.Bool.{Bool, true, false, cond, ◌||◌}
use mathlib.Core.List.{List}
use mathlib.Core.Option.{some}
use Prim.Native.Nat.{ℕ, zero, suc, ◌+◌, ◌*◌, ◌-◌, ◌/◌, ◌%◌, ◌^◌, ◌≤◌, ◌<◌}
use native.Mathlib.Omega.{arith}
use native.Mathlib.Nat.{pow-zero, pow-suc, pow-le-pow_left, mul-pos, mul-le-mul, mul-le-mul_right, zero-mul, suc-mul, div-add-mod', mod-lt}
use lib.Dec.{ltb, eqb}
use lib.IntN.{ℤ, pos, negsuc, ◌+ℤ◌, +ℤ_idl}
use lib.ListN.{get_elem?}
use lib.Pow.{pow_pos, pow-add}
use lib.Signed.{mag}
use borrow.Author.Tests.{leb-true, eqb-false, ltb-false}
use mir.Syntax.{Width, w8, w16, w32, w64, w128}
use mir.Val.{bits, hbits}
use Rattle.words.specs.Words.{wrap}
use Rattle.words.proofs.Reading.{wrap_is}
use Rattle.sums.specs.Signed.{exact_ops}
use Rattle.sums.specs.Moving.{last, moving, held}
use Rattle.sums.specs.State.{State, refusal}
use Rattle.sums.specs.Calls.{gain, gain_of, bit_length, gain_log2, gain_log2_of, fit_number, is_width, fit_number_of, fits, fits_of}
use Rattle.sums.specs.Counted.{Numbered}
use Rattle.sums.specs.Demands.{input, modulo, Decimates, Interpolates, InBits}
use Rattle.sums.proofs.Refusals.{Good, good, passed, first, second, both_zero}

-- mag z < B says that z lies in - B .. B - 1
mag_cond : (t : Bool) (a b A : ℕ) → a < A → b < A → mag (cond t (negsuc a) (pos b)) < A
mag_cond true a b A h k = h
mag_cond false a b A h k = k

mag_add : (a b : ℤ) (A B : ℕ) → mag a < A → mag b < B → mag (a +ℤ b) < A + B
mag_add (pos a) (pos b) A B h k = omega arith
mag_add (pos a) (negsuc b) A B h k = mag_cond (ltb a (suc b)) (suc b - suc a) (a - suc b) (A + B) (omega arith) (omega arith)
mag_add (negsuc a) (pos b) A B h k = mag_cond (ltb b (suc a)) (suc a - suc b) (b - suc a) (A + B) (omega arith) (omega arith)
mag_add (negsuc a) (negsuc b) A B h k = omega arith

last_mag : (L B : ℕ) (f : ℕ → ℤ) → ((t : ℕ) → mag (f t) < B) → (t : ℕ) → mag (last exact_ops (suc L) f t) < suc L * B
unfolding last
last_mag L B f h zero = omega (arith, h 0)
last_mag zero B f h (suc t) = subst (λ z. mag z < 1 * B) (sym (+ℤ_idl (f (suc t)))) (omega (arith, h (suc t)))
last_mag (suc L) B f h (suc t) =
    omega (arith, mag_add (last exact_ops (suc L) f t) (f (suc t)) (suc L * B) B (last_mag L B f h t) (h (suc t)))

moving_mag : (L n B : ℕ) (x : ℕ → ℤ) → ((t : ℕ) → mag (x t) < B) → (t : ℕ) → mag (moving exact_ops (suc L) n x t) < suc L ^ n * B
unfolding moving
moving_mag L zero B x h t = rw pow-zero (omega (arith, h t))
moving_mag L (suc n) B x h t =
    rw pow-suc (omega (arith, last_mag L (suc L ^ n * B) (moving exact_ops (suc L) n x) (moving_mag L n B x h) t))

-- no output wraps where gain times the inputs' bound fits
exact : (w : Width) (L n B : ℕ) (x : ℕ → ℤ) → 1 ≤ L → ((t : ℕ) → mag (x t) < B) → L ^ n * B ≤ 2 ^ hbits w → (t : ℕ)
    → wrap w (moving exact_ops L n x t) ≡ moving exact_ops L n x t
exact w zero n B x p h b t = absurd (omega arith)
exact w (suc L) n B x p h b t =
    let l : mag (moving exact_ops (suc L) n x t) < suc L ^ n * B = moving_mag L n B x h t in
    wrap_is w (moving exact_ops (suc L) n x t) (record { sfits = omega arith })

-- a number is below 2 to its number of bits
bits_bound : (fuel n : ℕ) → n < 2 ^ fuel → n < 2 ^ bit_length fuel n
unfolding bit_length
bits_bound zero n h = h
bits_bound (suc fuel) zero h = pow_pos 0
bits_bound (suc fuel) (suc n) h =
    let d = div-add-mod' (suc n) 2 in
    let m : suc n % 2 < 2 = mod-lt (suc n) (omega arith) in
    let p : 2 ^ suc fuel ≡ 2 ^ fuel * 2 = pow-suc 2 fuel in
    let k : suc n / 2 < 2 ^ bit_length fuel (suc n / 2) = bits_bound fuel (suc n / 2) (omega arith) in
    rw pow-suc (omega arith)

pow_pow : (k n : ℕ) → (2 ^ k) ^ n ≡ 2 ^ (n * k)
pow_pow k zero = pow-zero (2 ^ k) ∙ ap (λ n. 2 ^ n) (sym (zero-mul k))
pow_pow k (suc n) =
    pow-suc (2 ^ k) n ∙ ap (λ m. m * 2 ^ k) (pow_pow k n) ∙ sym (pow-add 2 (n * k) k) ∙ ap (λ m. 2 ^ m) (sym (suc-mul n k))

-- the length of the moving sum is at least 1 and at most 2 to the bit length of one less
module _ {A : Type 0} (s : State A) (q : Good s) where
  abbrev L : ℕ
  L = suc s.rate * s.delay

  pub length_pos : 1 ≤ L
  length_pos = mul-pos (omega arith) q.some

  length_bound : L ≤ 2 ^ bit_length 64 (L - 1)
  length_bound =
      let most : L ≤ 65536 * 8 = mul-le-mul {n₁ = suc s.rate} {n₂ = 65536} (omega (arith, q.slow)) q.short in
      let few : L - 1 < 2 ^ 64 = omega arith in
      let b = bits_bound 64 (L - 1) few in
      omega (arith, length_pos)

  pub gain_bound : gain s ≤ 2 ^ gain_log2 s
  unfolding gain_of gain_log2_of
  gain_bound =
      subst (λ n. L ^ s.order ≤ n) (pow_pow (bit_length 64 (L - 1)) s.order) (pow-le-pow_left length_bound s.order)

half_bits : (w : Width) → bits w ≡ suc (hbits w)
half_bits w8 = refl
half_bits w16 = refl
half_bits w32 = refl
half_bits w64 = refl
half_bits w128 = refl

-- what an accepted question of fit is about
pub record Asked {A : Type 0} (s : State A) (width b : ℕ) : Type 0 where
  pub accepted : refusal s ≡ 0
  pub some : 1 ≤ b
  pub most : b ≤ width

pub fit_asked : {A : Type 0} (s : State A) (width b : ℕ) → fit_number s width b ≡ 0 → Asked s width b
unfolding fit_number_of
fit_asked s width b e =
    let rest : ℕ = cond (is_width width) 0 17 in
    let z = both_zero (refusal s) (cond (eqb b 0 || ltb width b) 17 rest) e in
    let both = passed (eqb b 0 || ltb width b) 16 rest z.1 in
    let nz : b ≡ 0 → ⊥ = eqb-false b 0 (first (eqb b 0) (ltb width b) both) in
    record { accepted = z.0; some = omega arith; most = ltb-false width b (second (eqb b 0) (ltb width b) both) }

-- the greatest gain that fits, times the inputs' bound, is half the words
pub limit_times : (w : Width) (b : ℕ) → 1 ≤ b → b ≤ bits w → 2 ^ (bits w - b) * 2 ^ (b - 1) ≡ 2 ^ hbits w
limit_times w b h k = let e = half_bits w in sym (pow-add 2 (bits w - b) (b - 1)) ∙ ap (λ n. 2 ^ n) (omega arith)

own : (w : Width) (n : ℕ) {z : ℤ} → wrap w z ≡ z → modulo w n z ≡ z
unfolding modulo
own w zero e = refl
own w (suc n) e = e

-- the answer yes
module _ (w : Width) (s : State ℤ) (b : ℕ) (e : fit_number s (bits w) b ≡ 0) (yes : fits s (bits w) b ≡ true) where
  -- a moving sum of inputs of b bits is its own word
  own_word : (x : ℕ → ℤ) → ((t : ℕ) → mag (x t) < 2 ^ (b - 1)) → (t : ℕ)
      → let z = moving exact_ops (suc s.rate * s.delay) s.order x t in modulo w s.order z ≡ z
  unfolding fits_of gain_of
  own_word x h t =
      let a = fit_asked s (bits w) b e in
      let product : gain s * 2 ^ (b - 1) ≤ 2 ^ (bits w - b) * 2 ^ (b - 1) =
      mul-le-mul_right (2 ^ (b - 1)) (leb-true (gain s) (2 ^ (bits w - b)) yes) in
      own w s.order
      (exact w (suc s.rate * s.delay) s.order (2 ^ (b - 1)) x (length_pos s (good s a.accepted)) h
      (omega (arith, product, limit_times w b a.some a.most)) t)

  -- so a run's outputs are the moving sums that they are the words of
  pub whole : {c u n : ℕ} {xs : List ℤ} {ys : List (Numbered ℤ)} → Decimates w s.order s.delay s.rate c u n xs ys → InBits b xs
      → (k : ℕ) (y : Numbered ℤ) → get_elem? ys k ≡ some y → y.told ≡ 0
      → y.value ≡ moving exact_ops (suc s.rate * s.delay) s.order (input xs) (c + k * suc s.rate)
  whole {c = c} {xs = xs} d h k y is told = d.sums k y is told ∙ own_word (input xs) h (c + k * suc s.rate)

  pub whole-risen : {xs ys : List ℤ} → Interpolates w s.order s.delay s.rate xs ys → InBits b xs
      → (t : ℕ) (y : ℤ) → get_elem? ys t ≡ some y
      → y ≡ moving exact_ops (suc s.rate * s.delay) s.order (held (suc s.rate) (input xs)) t
  unfolding held
  whole-risen {xs = xs} d h t y is =
      d.sums t y is ∙ own_word (held (suc s.rate) (input xs)) (λ i. h (i / suc s.rate)) t
