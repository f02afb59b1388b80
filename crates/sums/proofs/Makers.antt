-- What the makers give: accepted states over 8 and 64 cells, and what the zero state looks like to the rules.
use mathlib.Core.Path.{◌≡◌, refl, sym, ap, ap₂, ◌∙◌}
use mathlib.Core.List.{List, [], ◌∷◌, ◌++◌}
use Prim.Native.Nat.{ℕ, zero, suc, ◌+◌, ◌*◌, ◌-◌, ◌≤◌, max}
use native.Mathlib.Omega.{arith}
use native.Mathlib.Nat.{zero-sub, sub-zero, suc-sub-suc, zero-add}
use lib.IntN.{ℤ, pos}
use lib.ListN.{length, take, drop, replicate, length-replicate}
use lib.Seq.{take_at, drop-append-add}
use mir.Syntax.{Width}
use mir.Val.{SFits}
use Rattle.sums.specs.Ops.{Ops}
use Rattle.sums.specs.Signed.{signed_ops, exact_ops}
use Rattle.sums.specs.Machine.{Machine}
use Rattle.sums.specs.Moving.{moving}
use Rattle.sums.specs.State.{State, rows, view, refusal, zeroed}
use Rattle.sums.specs.Calls.{new_number, resume_number, rate_number, new_state, resume_state, rate_state, clear_state, settled_at}
use Rattle.sums.specs.Calls.{settle_state}
use Rattle.sums.specs.Demands.{input, InWord, Decimates}
use Rattle.sums.proofs.Refusals.{Sound, sound}
use Rattle.sums.proofs.Steps.{packed, Fit}
use Rattle.sums.proofs.Numbering.{numbering}
use Rattle.sums.proofs.Zeros.{falls_from_zero}
use Rattle.sums.proofs.Traces.{slow, output}
use Rattle.sums.proofs.Carried.{exact_laws, nil_in}
use Rattle.sums.proofs.Settling.{decimates}

pub take-replicate : {A : Type 0} (n k : ℕ) (a : A) → n ≤ k → take n (replicate k a) ≡ replicate n a
take-replicate zero k a l = refl
take-replicate (suc n) zero a l = absurd (omega arith)
take-replicate (suc n) (suc k) a l = ap (λ t. a ∷ t) (take-replicate n k a (omega arith))

pub drop-replicate : {A : Type 0} (n k : ℕ) (a : A) → drop n (replicate k a) ≡ replicate (k - n) a
drop-replicate zero k a = ap (λ m. replicate m a) (sym (sub-zero k))
drop-replicate (suc n) zero a = ap (λ m. replicate m a) (sym (zero-sub (suc n)))
drop-replicate (suc n) (suc k) a = drop-replicate n k a ∙ ap (λ m. replicate m a) (sym (suc-sub-suc k n))

pub rows-replicate : {A : Type 0} (M n k : ℕ) (a : A) → M ≤ 8 → n * 8 ≤ k → rows M n (replicate k a) ≡ replicate n (replicate M a)
unfolding rows
rows-replicate M zero k a m b = refl
rows-replicate M (suc n) k a m b =
    ap₂ ◌∷◌ (take-replicate M k a (omega arith)) (ap (rows M n) (drop-replicate 8 k a) ∙ rows-replicate M n (k - 8) a m (omega arith))

-- a first line, and zeros behind it
pub rows-first : {A : Type 0} (M n : ℕ) (l : List A) (a : A) → length l ≡ M → M ≤ 8 → n ≤ 7
    → rows M (suc n) (l ++ replicate (64 - M) a) ≡ l ∷ replicate n (replicate M a)
unfolding rows
rows-first M n l a e m b =
    let past : 8 ≡ length l + (8 - M) = omega arith in
    let left : 64 - M - (8 - M) ≡ 56 = omega arith in
    ap₂ ◌∷◌ (take_at l (replicate (64 - M) a) M e)
    (ap (rows M n)
    (ap (λ k. drop k (l ++ replicate (64 - M) a)) past
    ∙ drop-append-add l (replicate (64 - M) a) (8 - M)
    ∙ drop-replicate (8 - M) (64 - M) a
    ∙ ap (λ k. replicate k a) left)
    ∙ rows-replicate M n 56 a m (omega arith))

-- each maker, where it is accepted
module _ {A : Type 0} (o : Ops A) where
  pub new_is : (N M r : ℕ) → new_number N M r ≡ 0 → new_state o N M r ≡ zeroed o N M r
  unfolding new_state
  new_is N M r e = rw e

  pub clear_is : (s : State A) → refusal s ≡ 0 → clear_state o s ≡ zeroed o s.order s.delay s.rate
  unfolding clear_state
  clear_is s e = rw e

  pub resume_is : (N M r c : ℕ) (is ks : List A) (h : A) → resume_number N M r c ≡ 0 → resume_state o N M r is ks h c
      ≡ packed N M r c (N * M) h is ks
  unfolding resume_state
  resume_is N M r c is ks h e = rw e

  pub rate_is : (s : State A) (r : ℕ) → rate_number s r ≡ 0
      → rate_state o s r ≡ packed s.order s.delay r s.countdown (s.order * s.delay) s.hold s.integrators s.combs
  unfolding rate_state
  rate_is s r e = rw e

  pub settle_is : (s : State A) (x : A) → refusal s ≡ 0 → settle_state o s x ≡ settled_at o s x s.order
  unfolding settle_state
  settle_is s x e = rw e

pub zero_sound : {A : Type 0} (s : State A) → refusal s ≡ 0 → Sound s.order s.delay s.rate 0 0
zero_sound s e =
    let q = sound s.order s.delay s.rate s.countdown s.unsettled e in
    record { few = q.few; some = q.some; short = q.short; slow = q.slow; near = omega arith; owed = omega arith }

pub resume_sound : (N M r c : ℕ) → resume_number N M r c ≡ 0 → Sound N M r c (N * M)
resume_sound N M r c e =
    let q = sound N M r c 0 e in
    record { few = q.few; some = q.some; short = q.short; slow = q.slow; near = q.near; owed = omega arith }

pub rate_sound : {A : Type 0} (s : State A) (r : ℕ) → rate_number s r ≡ 0
    → Sound s.order s.delay r s.countdown (s.order * s.delay)
rate_sound s r e =
    let q = sound s.order s.delay (max s.rate r) s.countdown s.unsettled e in
    record { few = q.few; some = q.some; short = q.short; slow = omega (arith, q.slow); near = q.near; owed = omega arith }

module _ {A : Type 0} (o : Ops A) (N M r : ℕ) (q : Sound N M r 0 0) where
  pub zeroed_fit : Fit (zeroed o N M r)
  unfolding zeroed
  zeroed_fit = record { good = q; long8 = length-replicate 8 o.nil; long64 = length-replicate 64 o.nil }

  pub zeroed-integrators : (view (zeroed o N M r)).integrators ≡ replicate N o.nil
  unfolding view zeroed
  zeroed-integrators = take-replicate N 8 o.nil q.few

  pub zeroed-lines : (view (zeroed o N M r)).lines ≡ replicate N (replicate M o.nil)
  unfolding view zeroed
  zeroed-lines = rows-replicate M N 64 o.nil q.short (omega (arith, q.few))

pub replicate_in : (w : Width) (n : ℕ) (x : ℤ) → SFits w x → InWord w (replicate n x)
replicate_in w zero x h i = nil_in w
replicate_in w (suc n) x h zero = h
replicate_in w (suc n) x h (suc i) = replicate_in w n x h i

pub append_in : (w : Width) (l k : List ℤ) → InWord w l → InWord w k → InWord w (l ++ k)
append_in w [] k h q i = q i
append_in w (a ∷ l) k h q zero = h 0
append_in w (a ∷ l) k h q (suc i) = append_in w l k (λ j. h (suc j)) q i

-- from zero every output is the moving sum
zero-output : (N M : ℕ) (s : Machine ℤ) → s.countdown ≡ 0 → s.integrators ≡ replicate N (pos 0) → s.lines
    ≡ replicate N (replicate M (pos 0))
    → (x : ℕ → ℤ) (k : ℕ) → output exact_ops s x k ≡ moving exact_ops (suc s.rate * M) N x (0 + k * suc s.rate)
unfolding output slow
zero-output N M s ec ei el x k = rw (ec, ei, el) (falls_from_zero exact_ops exact_laws N M s.rate x k
    ∙ ap (moving exact_ops (suc s.rate * M) N x) (sym (zero-add (k * suc s.rate))))

pub decimates-zero : (w : Width) (N M r : ℕ) → Sound N M r 0 0 → (xs : List ℤ)
    → Decimates w N M r 0 0 0 xs (numbering (signed_ops w) 0 (zeroed (signed_ops w) N M r) xs)
unfolding zeroed view
decimates-zero w N M r q xs =
    decimates w (zeroed (signed_ops w) N M r) (zeroed_fit (signed_ops w) N M r q) xs 0
    (λ k l. zero-output N M (view (zeroed (signed_ops w) N M r)) refl (zeroed-integrators (signed_ops w) N M r q)
    (zeroed-lines (signed_ops w) N M r q) (input xs) k)
