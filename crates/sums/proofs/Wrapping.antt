-- Inputs that are all the least number of b bits add up to the gain times it, so that where the gain is above 2 ^ (w - b) an output wraps:
-- output number N · M, which falls on input number N · M · R, both from 0.
use mathlib.Core.Path.{◌≡◌, refl, sym, ap, ap₂, subst, ◌∙◌}
use mathlib.Core.Bool.{false}
use mathlib.Core.List.{List, [], ◌∷◌}
use mathlib.Core.Option.{some}
use Prim.Native.Nat.{ℕ, zero, suc, ◌+◌, ◌*◌, ◌-◌, ◌^◌, ◌≤◌, ◌<◌}
use native.Mathlib.Omega.{arith}
use native.Mathlib.Nat.{pow-zero, pow-suc, mul-lt-mul_of_pos_right, mul-le-mul, mul-le-mul_right, mul_comm, mul_assoc, zero-add}
use native.Mathlib.Nat.{one-mul, suc-mul, mul-suc}
use lib.IntN.{ℤ, pos, negsuc, neg_ℤ, ◌+ℤ◌, +ℤ_idl, neg_ℤ-+ℤ}
use lib.Pow.{pow_pos}
use lib.Signed.{mag}
use lib.ListN.{length, get_elem?, replicate, length-replicate, get_or-replicate}
use borrow.Author.Tests.{leb-false, ltb-true, lt-ltb}
use mir.Syntax.{Width}
use mir.Val.{SFits, bits, hbits}
use Rattle.words.specs.Words.{wrap}
use Rattle.words.proofs.Reading.{wrap-fits}
use Rattle.sums.specs.Signed.{signed_ops, exact_ops}
use Rattle.sums.specs.Moving.{last, moving}
use Rattle.sums.specs.State.{State, zeroed}
use Rattle.sums.specs.Calls.{gain, gain_of, fit_number, fits, fits_of}
use Rattle.sums.specs.Counted.{Counted, Numbered, most_inputs, taken_outputs}
use Rattle.sums.specs.Demands.{input, modulo, Decimates, Wraps}
use Rattle.sums.proofs.Refusals.{Sound, good}
use Rattle.sums.proofs.Numbering.{numbering, taken_numbering}
use Rattle.sums.proofs.Makers.{clear_is, zero_sound, zeroed_fit, decimates-zero}
use Rattle.sums.proofs.Sizes.{Asked, fit_asked, limit_times, length_pos}

-- the numbers at most 0, by their size
abbrev less : ℕ → ℤ
less v = neg_ℤ (pos v)

less-add : (a b : ℕ) → less a +ℤ less b ≡ less (a + b)
less-add a b = sym (neg_ℤ-+ℤ (pos a) (pos b))

-- l + 1 values that are all - v
last_constant : (l v : ℕ) (f : ℕ → ℤ) (t : ℕ) → l ≤ t → ((s : ℕ) → t ≤ s + l → s ≤ t → f s ≡ less v)
    → last exact_ops (suc l) f t ≡ less (suc l * v)
unfolding last
last_constant zero v f zero h k = k 0 (omega arith) (omega arith) ∙ ap less (sym (one-mul v))
last_constant zero v f (suc t) h k = +ℤ_idl (f (suc t)) ∙ k (suc t) (omega arith) (omega arith) ∙ ap less (sym (one-mul v))
last_constant (suc l) v f zero h k = absurd (omega arith)
last_constant (suc l) v f (suc t) h k =
    ap₂ ◌+ℤ◌ (last_constant l v f t (omega arith) (λ s a b. k s (omega arith) (omega arith))) (k (suc t) (omega arith) (omega arith))
    ∙ less-add (suc l * v) v
    ∙ ap less (sym (suc-mul (suc l) v))

-- the moving sum of T inputs that are all - v, once its folds are full
moving_constant : (l n v T : ℕ) (x : ℕ → ℤ) → ((s : ℕ) → s < T → x s ≡ less v) → (t : ℕ) → n * l ≤ t → t < T
    → moving exact_ops (suc l) n x t ≡ less (suc l ^ n * v)
unfolding moving
moving_constant l zero v T x h t a b = h t b ∙ ap less (sym (ap (λ p. p * v) (pow-zero (suc l)) ∙ one-mul v))
moving_constant l (suc n) v T x h t a b =
    let m = suc-mul n l in
    last_constant l (suc l ^ n * v) (moving exact_ops (suc l) n x) t (omega arith)
    (λ s c d. moving_constant l n v T x h s (omega arith) (omega arith))
    ∙ ap less (sym (mul_assoc (suc l) (suc l ^ n) v) ∙ ap (λ p. p * v) (mul_comm (suc l) (suc l ^ n) ∙ sym (pow-suc (suc l) n)))

-- the same for any length of at least 1
moving-least : (L n v T : ℕ) (x : ℕ → ℤ) → 1 ≤ L → ((s : ℕ) → s < T → x s ≡ less v) → (t : ℕ) → n * L ≤ t → t < T
    → moving exact_ops L n x t ≡ less (L ^ n * v)
moving-least zero n v T x p h t a b = absurd (omega arith)
moving-least (suc l) n v T x p h t a b = let e = mul-suc n l in moving_constant l n v T x h t (omega arith) b

-- below the least word nothing is its own word
below-least : (w : Width) (v : ℕ) → 2 ^ hbits w < v → wrap w (less v) ≡ less v → ⊥
below-least w zero h e = absurd (omega arith)
below-least w (suc v) h e =
    let f : mag (negsuc v) < 2 ^ hbits w = (subst (SFits w) e (wrap-fits w (negsuc v))).sfits in omega arith

least_in : (n B : ℕ) → 0 < B → (t : ℕ) → mag (input (replicate n (less B)) t) < B
least_in zero B p t = p
least_in (suc n) zero p zero = absurd (omega arith)
least_in (suc n) (suc B) p zero = omega arith
least_in (suc n) B p (suc t) = least_in n B p t

-- an element that is there
record Found {X : Type 0} (l : List X) (k : ℕ) : Type 0 where
  value : X
  is : get_elem? l k ≡ some value

found : {X : Type 0} (l : List X) (k : ℕ) → k < length l → Found l k
found [] k h = absurd (omega arith)
found (a ∷ l) zero h = record { value = a; is = refl }
found (a ∷ l) (suc k) h = let f = found l k (omega arith) in record { value = f.value; is = f.is }

module _ (w : Width) (c : Counted ℤ) (b : ℕ) (e : fit_number c.state (bits w) b ≡ 0) (no : fits c.state (bits w) b ≡ false) where
  abbrev s : State ℤ
  s = c.state

  abbrev N : ℕ
  N = s.order

  abbrev L : ℕ
  L = suc s.rate * s.delay

  abbrev B : ℕ
  B = 2 ^ (b - 1)

  abbrev k : ℕ
  k = N * s.delay

  -- its input
  abbrev at : ℕ
  at = k * suc s.rate

  abbrev xs : List ℤ
  xs = replicate (suc at) (less B)

  abbrev fresh : State ℤ
  fresh = zeroed (signed_ops w) N s.delay s.rate

  abbrev ys : List (Numbered ℤ)
  ys = numbering (signed_ops w) 0 fresh xs

  asked : Asked s (bits w) b
  asked = fit_asked s (bits w) b e

  fresh_sound : Sound N s.delay s.rate 0 0
  fresh_sound = zero_sound s asked.accepted

  -- there is room for so many inputs
  few : 0 + length xs ≤ most_inputs
  few =
      let q = fresh_sound in
      let cells : k ≤ 64 = mul-le-mul {n₁ = N} {m₁ = s.delay} {n₂ = 8} {m₂ = 8} q.few q.short in
      let most : at ≤ 64 * 65536 = mul-le-mul {n₁ = k} {m₁ = suc s.rate} {n₂ = 64} {m₂ = 65536} cells (omega (arith, q.slow)) in
      rw length-replicate (omega arith)

  taken : taken_outputs (signed_ops w) (record { state = fresh; inputs = 0 }) xs ≡ ys
  taken =
      taken_numbering (signed_ops w) (record { state = fresh; inputs = 0 }) (zeroed_fit (signed_ops w) N s.delay s.rate fresh_sound) xs
      few

  ran : Decimates w N s.delay s.rate 0 0 0 xs ys
  ran = decimates-zero w N s.delay s.rate fresh_sound xs

  there : Found ys k
  there =
      found ys k (ltb-true k (length ys) (ran.falls k ∙ lt-ltb (0 + at) (length xs) (rw length-replicate (omega arith))))

  sum_is : moving exact_ops L N (input xs) at ≡ less (gain s * B)
  unfolding gain_of
  sum_is =
      let same : N * L ≡ at = ap (λ n. N * n) (mul_comm (suc s.rate) s.delay) ∙ sym (mul_assoc N s.delay (suc s.rate)) in
      moving-least L N B (suc at) (input xs) (length_pos s (good s asked.accepted))
      (λ i h. get_or-replicate (suc at) i (less B) (pos 0) h) at (omega arith) (omega arith)

  above : 2 ^ hbits w < gain s * B
  unfolding fits_of
  above =
      let a = asked in
      let more : 2 ^ (bits w - b) < gain s = leb-false (gain s) (2 ^ (bits w - b)) no in
      subst (λ n. n < gain s * B) (limit_times w b a.some a.most) (mul-lt-mul_of_pos_right more (pow_pos (b - 1)))

  -- at order 0 the gain is 1, which always fits
  wrong : (n : ℕ) → N ≡ n → modulo w n (less (gain s * B)) ≡ less (gain s * B) → ⊥
  unfolding modulo gain_of
  wrong zero o d =
      let a = asked in
      let one : gain s ≡ 1 = ap (λ n. L ^ n) o ∙ pow-zero L in
      let over : 2 ^ hbits w < 1 * B = subst (λ g. 2 ^ hbits w < g * B) one above in
      let room : 1 * B ≤ 2 ^ (bits w - b) * B = mul-le-mul_right B (pow_pos (bits w - b)) in
      omega (arith, over, room, limit_times w b a.some a.most)
  wrong (suc n) o d = below-least w (gain s * B) above d

  pub wraps : Wraps w c b
  wraps = record {
    inputs = xs;
    inputs_in = least_in (suc at) B (pow_pos (b - 1));
    number = k;
    given = y;
    is_given = rw (clear_is (signed_ops w) s asked.accepted, asked.accepted) (ap (λ l. get_elem? l k) taken ∙ there.is);
    differs = λ d. wrong N refl (ap (modulo w N) (sym moved) ∙ sym value ∙ d ∙ sum_is);
  }
    where
      y : Numbered ℤ
      y = there.value

      moved : moving exact_ops L N (input xs) (0 + at) ≡ less (gain s * B)
      moved = ap (moving exact_ops L N (input xs)) (zero-add at) ∙ sum_is

      value : y.value ≡ modulo w N (moving exact_ops L N (input xs) (0 + at))
      value = ran.sums k y there.is (ran.tells k y there.is ∙ omega arith)
