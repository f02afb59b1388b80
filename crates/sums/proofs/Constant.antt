-- settle_interpolate on x: with the first line all x a stream of x leaves every comb at nothing, so the integrators stand still and the
-- last one gives what it was set to, x times gain.
use mathlib.Core.Path.{◌≡◌, refl, sym, ap, ap₂, subst, fun_ext, ◌∙◌}
use mathlib.Core.List.{List, [], ◌∷◌, ◌++◌}
use Prim.Native.Nat.{ℕ, zero, suc, ◌*◌, ◌-◌, ◌/◌, ◌^◌, ◌<◌}
use native.Mathlib.Omega.{arith}
use native.Mathlib.Nat.{pow-zero}
use lib.IntN.{ℤ, pos, ◌*ℤ◌, zero-*ℤ, suc_ℤ-*ℤ, +ℤ_idl}
use lib.ListN.{length, get_or, take, replicate, length-replicate, length-append, get_or-replicate}
use mir.Syntax.{Width}
use Rattle.words.specs.Words.{wrap}
use Rattle.words.proofs.Sums.{wrap-same}
use Rattle.sums.specs.Ops.{Ops, Laws, times}
use Rattle.sums.specs.Signed.{signed_ops, exact_ops}
use Rattle.sums.specs.Moving.{held}
use Rattle.sums.specs.State.{State, rows, view}
use Rattle.sums.specs.Calls.{gain, gain_of, settled_at}
use Rattle.sums.specs.Demands.{modulo, along, lifts, samples, Stream}
use Rattle.sums.proofs.Refusals.{Sound}
use Rattle.sums.proofs.Steps.{Fit}
use Rattle.sums.proofs.Groups.{sub_self}
use Rattle.sums.proofs.Sequences.{pre, acc}
use Rattle.sums.proofs.Cascade.{prep, lag, comb_val, int_val}
use Rattle.sums.proofs.Carried.{exact_laws, times-alike}
use Rattle.sums.proofs.Makers.{rows-first}
use Rattle.sums.proofs.Interpolating.{given_is}

prep_const : {A : Type 0} (M : ℕ) (a : A) (k : ℕ) → prep (replicate M a) (λ i. a) k ≡ a
unfolding prep
prep_const zero a k = refl
prep_const (suc M) a zero = refl
prep_const (suc M) a (suc k) = prep_const M a k

module _ {A : Type 0} (o : Ops A) (g : Laws o) where
  lag_const : (M : ℕ) (a : A) → lag o (replicate M a) (λ i. a) ≡ (λ i. o.nil)
  unfolding lag
  lag_const M a = fun_ext (λ k. ap (o.sub a) (prep_const M a k) ∙ sub_self o g a)

  combs_still : (M n : ℕ) → comb_val o (replicate n (replicate M o.nil)) (λ i. o.nil) ≡ (λ i. o.nil)
  unfolding comb_val
  combs_still M zero = refl
  combs_still M (suc n) = ap (comb_val o (replicate n (replicate M o.nil))) (lag_const M o.nil) ∙ combs_still M n

  combs_const : (M n : ℕ) (a : A) → comb_val o (replicate M a ∷ replicate n (replicate M o.nil)) (λ i. a) ≡ (λ i. o.nil)
  unfolding comb_val
  combs_const M n a = ap (comb_val o (replicate n (replicate M o.nil))) (lag_const M a) ∙ combs_still M n

  pub pre_still : (a : A) (t : ℕ) → pre o a (λ i. o.nil) t ≡ a
  unfolding pre
  pre_still a zero = refl
  pre_still a (suc t) = g.add_nil (pre o a (λ i. o.nil) t) ∙ pre_still a t

  ints_still : (n : ℕ) (a : A) → int_val o (replicate n o.nil ++ (a ∷ [])) (λ i. o.nil) ≡ (λ i. a)
  unfolding int_val acc
  ints_still zero a = fun_ext (λ t. pre_still a (suc t))
  ints_still (suc n) a = ap (int_val o (replicate n o.nil ++ (a ∷ []))) (fun_ext (λ t. pre_still o.nil (suc t))) ∙ ints_still n a

  -- the cascade that settle_interpolate sets
  still : (R M n : ℕ) (x a : A) → int_val o (replicate n o.nil ++ (a ∷ []))
      (held R (comb_val o (replicate M x ∷ replicate n (replicate M o.nil)) (λ i. x))) ≡ (λ i. a)
  unfolding held
  still R M n x a = ap (λ (f : ℕ → A). int_val o (replicate n o.nil ++ (a ∷ [])) (λ t. f (t / R))) (combs_const M n x) ∙ ints_still n a

-- n times x is a product
times_is : (n : ℕ) (x : ℤ) → times exact_ops n x ≡ pos n *ℤ x
unfolding times
times_is zero x = sym (zero-*ℤ x)
times_is (suc n) x = ap (λ y. exact_ops.add y x) (times_is n x) ∙ sym (suc_ℤ-*ℤ (pos n) x)

take_front : {A : Type 0} (n : ℕ) (a b : A) (l : List A) → take (suc n) (replicate n b ++ (a ∷ l)) ≡ replicate n b ++ (a ∷ [])
take_front zero a b l = refl
take_front (suc n) a b l = ap (λ r. b ∷ r) (take_front n a b l)

-- a state that gives v at every step over a stream of x
record Still (x v : ℤ) (s : State ℤ) : Type 0 where
  pub fit : Fit s
  pub due : s.countdown ≡ 0
  pub gives : (t : ℕ) → int_val exact_ops (view s).integrators (held (suc s.rate) (comb_val exact_ops (view s).lines (λ i. x))) t ≡ v

module _ (w : Width) (s : State ℤ) (x : ℤ) where
  -- order 0
  still_zero : Sound 0 s.delay s.rate 0 0 → Still x x (settled_at (signed_ops w) s x 0)
  unfolding settled_at view rows int_val comb_val held
  still_zero q = record { fit = record { good = q; long8 = refl; long64 = refl }; due = refl; gives = λ t. refl }

  -- order n + 1
  module _ (n : ℕ) (q : Sound (suc n) s.delay s.rate 0 0) where
    abbrev top : ℤ
    top = times (signed_ops w) (gain s) x

    abbrev cells : List ℤ
    cells = replicate s.delay x ++ replicate (64 - s.delay) (pos 0)

    abbrev ints : List ℤ
    ints = replicate n (pos 0) ++ (top ∷ replicate (7 - n) (pos 0))

    first_ints : take (suc n) ints ≡ replicate n (pos 0) ++ (top ∷ [])
    first_ints = take_front n top (pos 0) (replicate (7 - n) (pos 0))

    first_rows : rows s.delay (suc n) cells ≡ replicate s.delay x ∷ replicate n (replicate s.delay (pos 0))
    first_rows = rows-first s.delay n (replicate s.delay x) (pos 0) (length-replicate s.delay x) q.short (omega (arith, q.few))

    still_suc : Still x top (settled_at (signed_ops w) s x (suc n))
    unfolding settled_at view
    still_suc = record {
      fit = record {
        good = q;
        long8 = simp (length-append, length-replicate) (omega (arith, q.few));
        long64 = simp (length-append, length-replicate) (omega (arith, q.short));
      };
      due = refl;
      gives = λ t. ap₂ (λ is ls. int_val exact_ops is (held (suc s.rate) (comb_val exact_ops ls (λ i. x))) t) first_ints first_rows
          ∙ ap (λ (f : ℕ → ℤ). f t) (still exact_ops exact_laws (suc s.rate) s.delay n x top);
    }

-- every output of a run over a stream of x
stream_still : (w : Width) (x v : ℤ) (s : State ℤ) → Still x v s → Stream w s x (modulo w s.order v)
stream_still w x v s k calls n e t y q =
    let stream : (i : ℕ) → i < length (along (lifts (signed_ops w)) samples s calls)
    → get_or (along (lifts (signed_ops w)) samples s calls) i (pos 0) ≡ x =
    λ i l. ap (λ r. get_or r i (pos 0)) e ∙ get_or-replicate n i x (pos 0) (subst (λ m. i < m) (ap length e ∙ length-replicate n x) l) in
    given_is w s k.fit k.due calls (λ i. x) stream t y q ∙ ap (modulo w s.order) (k.gives t)

pub settled_stream : (w : Width) (s : State ℤ) (x : ℤ) (N : ℕ) → s.order ≡ N → Sound N s.delay s.rate 0 0
    → Stream w (settled_at (signed_ops w) s x N) x (modulo w N (pos (gain s) *ℤ x))
unfolding gain_of times settled_at modulo
settled_stream w s x zero o q =
    let one : gain s ≡ 1 = ap (λ k. (suc s.rate * s.delay) ^ k) o ∙ pow-zero (suc s.rate * s.delay) in
    let same : x ≡ pos (gain s) *ℤ x = sym (ap (λ k. pos k *ℤ x) one ∙ sym (times_is 1 x) ∙ +ℤ_idl x) in
    subst (Stream w (settled_at (signed_ops w) s x 0) x) same (stream_still w x x (settled_at (signed_ops w) s x 0) (still_zero w s x q))
settled_stream w s x (suc n) o q =
    subst (Stream w (settled_at (signed_ops w) s x (suc n)) x)
    (wrap-same (times-alike w (gain s) x) ∙ ap (wrap w) (times_is (gain s) x))
    (stream_still w x (times (signed_ops w) (gain s) x) (settled_at (signed_ops w) s x (suc n)) (still_suc w s x n q))
