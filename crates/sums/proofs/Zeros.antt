-- The cascade from zero, either way. A comb whose line is all zeros subtracts the sequence behind L zeros; it undoes an integrator down to
-- the sum of the last L values, commutes with the window and with integrators, and passes through every R-th value and through holding.
use mathlib.Core.Path.{◌≡◌, refl, sym, ap, ap₂, fun_ext, ◌∙◌}
use Prim.Native.Nat.{ℕ, zero, suc, ◌+◌, ◌*◌, ◌-◌, ◌/◌, ◌≤◌, ◌<◌}
use native.Mathlib.Omega.{arith}
use native.Mathlib.Decide.{dec_le}
use native.Mathlib.Numerals.{add-one}
use native.Mathlib.Nat.{zero-add, suc-add, mul_comm, zero-mul, div-eq_of_lt, add-div_left}
use lib.ListN.{replicate, length-replicate}
use Rattle.sums.specs.Ops.{Ops, Laws}
use Rattle.sums.specs.Moving.{last, moving, held}
use Rattle.sums.proofs.Shapes.{Lines}
use Rattle.sums.proofs.Groups.{nil-add, swap, sub_of, sub_self, sub_medial}
use Rattle.sums.proofs.Sequences.{iter, iter_out, iter_across, down, pre, acc, moving_iter}
use Rattle.sums.proofs.Cascade.{prep, lag, comb_val, int_val}

module _ {A : Type 0} (o : Ops A) where
  -- f behind L zeros
  unfoldable pub late : ℕ → (ℕ → A) → ℕ → A
  late L f = prep (replicate L o.nil) f

  pub late_none : (f : ℕ → A) (t : ℕ) → late 0 f t ≡ f t
  unfolding late prep
  late_none f t = refl

  late_zero : (L : ℕ) (f : ℕ → A) → late (suc L) f 0 ≡ o.nil
  unfolding late prep
  late_zero L f = refl

  late_suc : (L : ℕ) (f : ℕ → A) (t : ℕ) → late (suc L) f (suc t) ≡ late L f t
  unfolding late prep
  late_suc L f t = refl

  pub late_add : (a b : ℕ) (f : ℕ → A) (n : ℕ) → late (a + b) f (a + n) ≡ late b f n
  late_add zero b f n = ap₂ (λ p q. late p f q) (zero-add b) (zero-add n)
  late_add (suc a) b f n = ap₂ (λ p q. late p f q) (suc-add a b) (suc-add a n) ∙ late_suc (a + b) f (a + n) ∙ late_add a b f n

  late_early : (a b : ℕ) (f : ℕ → A) (t : ℕ) → t < a → late (a + b) f t ≡ o.nil
  late_early zero b f t l = absurd (omega arith)
  late_early (suc a) b f zero l = ap (λ p. late p f 0) (suc-add a b) ∙ late_zero (a + b) f
  late_early (suc a) b f (suc t) l = ap (λ p. late p f (suc t)) (suc-add a b) ∙ late_suc (a + b) f t ∙ late_early a b f t (omega arith)

  -- one zero in front
  unfoldable behind : (ℕ → A) → ℕ → A
  behind f zero = o.nil
  behind f (suc t) = f t

  late_behind : (L : ℕ) (f : ℕ → A) (t : ℕ) → late (suc L) f t ≡ behind (late L f) t
  unfolding behind
  late_behind L f zero = late_zero L f
  late_behind L f (suc t) = late_suc L f t

  late_iter : (L : ℕ) (f : ℕ → A) → late L f ≡ iter behind L f
  unfolding iter
  late_iter zero f = fun_ext (late_none f)
  late_iter (suc L) f = fun_ext (late_behind L f) ∙ ap behind (late_iter L f) ∙ sym (iter_out behind L f)

  -- a comb whose line is all zeros
  unfoldable pub lagz : ℕ → (ℕ → A) → ℕ → A
  lagz L f t = o.sub (f t) (late L f t)

  pub ints_iter : (n : ℕ) (x : ℕ → A) → int_val o (replicate n o.nil) x ≡ iter (acc o o.nil) n x
  unfolding int_val iter
  ints_iter zero x = refl
  ints_iter (suc n) x = ints_iter n (acc o o.nil x)

  pub combs_iter : (M n : ℕ) (v : ℕ → A) → comb_val o (replicate n (replicate M o.nil)) v ≡ iter (lagz M) n v
  unfolding comb_val iter lag lagz late
  combs_iter M zero v = refl
  combs_iter M (suc n) v = combs_iter M n (lagz M v)

  pub lines-zero : (M n : ℕ) → Lines M (replicate n (replicate M o.nil))
  lines-zero M zero = tt
  lines-zero M (suc n) = (length-replicate M o.nil, lines-zero M n)

  -- every R-th value
  late_down : (r M : ℕ) (f : ℕ → A) (k : ℕ) → late (M * suc r) f (k * suc r) ≡ late M (λ i. f (i * suc r)) k
  late_down r zero f k = ap (λ p. late p f (k * suc r)) (omega arith) ∙ late_none f (k * suc r) ∙ sym (late_none (λ i. f (i * suc r)) k)
  late_down r (suc M) f zero =
      ap₂ (λ p q. late p f q) (omega arith) (omega arith) ∙ late_zero (r + M * suc r) f ∙ sym (late_zero M (λ i. f (i * suc r)))
  late_down r (suc M) f (suc k) =
      ap₂ (λ p q. late p f q) (omega arith) (omega arith)
      ∙ late_add (suc r) (M * suc r) f (k * suc r)
      ∙ late_down r M f k
      ∙ sym (late_suc M (λ i. f (i * suc r)) k)

  lagz_down : (r M : ℕ) (f : ℕ → A) → down (suc r) 0 (lagz (M * suc r) f) ≡ lagz M (down (suc r) 0 f)
  unfolding lagz down
  lagz_down r M f =
      fun_ext
      (λ k. ap (o.sub (f (0 + k * suc r)))
      (ap (late (M * suc r) f) (zero-add (k * suc r)) ∙ late_down r M f k
      ∙ ap (λ h. late M h k) (fun_ext (λ i. ap f (sym (zero-add (i * suc r)))))))

  -- each value R times
  rows_of : (r M : ℕ) → suc M * suc r ≡ suc r + M * suc r
  rows_of r M = omega arith

  late_turn : (r M : ℕ) (f : ℕ → A) (t : ℕ) → ((u : ℕ) → late (M * suc r) (held (suc r) f) u ≡ late M f (u / suc r))
      → Dec (suc r ≤ t) → late (suc M * suc r) (held (suc r) f) t ≡ late (suc M) f (t / suc r)
  late_turn r M f t ih (yes l) =
      let u : ℕ = t - suc r in
      let e : t ≡ suc r + u = omega arith in
      let d : t / suc r ≡ suc (u / suc r) = ap (λ n. n / suc r) e ∙ add-div_left u (omega arith) ∙ add-one (u / suc r) in
      ap₂ (λ p q. late p (held (suc r) f) q) (rows_of r M) e
      ∙ late_add (suc r) (M * suc r) (held (suc r) f) u
      ∙ ih u
      ∙ sym (late_suc M f (u / suc r))
      ∙ sym (ap (late (suc M) f) d)
  late_turn r M f t ih (no l) =
      ap (λ p. late p (held (suc r) f) t) (rows_of r M)
      ∙ late_early (suc r) (M * suc r) (held (suc r) f) t (omega arith)
      ∙ sym (ap (late (suc M) f) (div-eq_of_lt (omega arith)) ∙ late_zero M f)

  late_held : (r M : ℕ) (f : ℕ → A) (t : ℕ) → late (M * suc r) (held (suc r) f) t ≡ late M f (t / suc r)
  late_held r zero f t =
      let at : held (suc r) f t ≡ f (t / suc r) = unfold held in refl in
      ap (λ p. late p (held (suc r) f) t) (zero-mul (suc r)) ∙ late_none (held (suc r) f) t ∙ at ∙ sym (late_none f (t / suc r))
  late_held r (suc M) f t = late_turn r M f t (late_held r M f) (dec_le (suc r) t)

  held_lagz : (r M : ℕ) (f : ℕ → A) → held (suc r) (lagz M f) ≡ lagz (M * suc r) (held (suc r) f)
  unfolding held lagz
  held_lagz r M f = fun_ext (λ t. ap (o.sub (f (t / suc r))) (sym (late_held r M f t)))

  module _ (g : Laws o) where
    -- an integrator that starts at zero, seen through the window
    acc_last : (L : ℕ) (f : ℕ → A) (t : ℕ) → o.add (last o L f t) (late L (acc o o.nil f) t) ≡ acc o o.nil f t
    unfolding last acc pre
    acc_last zero f t = ap (o.add o.nil) (late_none (acc o o.nil f) t) ∙ nil-add o g (acc o o.nil f t)
    acc_last (suc L) f zero = ap (o.add (f 0)) (late_zero L (acc o o.nil f)) ∙ g.comm (f 0) o.nil
    acc_last (suc L) f (suc t) =
        ap (o.add (o.add (last o L f t) (f (suc t)))) (late_suc L (acc o o.nil f) t)
        ∙ swap o g (last o L f t) (f (suc t)) (late L (acc o o.nil f) t)
        ∙ ap (λ y. o.add y (f (suc t))) (acc_last L f t)

    lagz_acc : (L : ℕ) (f : ℕ → A) → lagz L (acc o o.nil f) ≡ last o L f
    unfolding lagz
    lagz_acc L f = fun_ext (λ t. sub_of o g (acc o o.nil f t) (late L (acc o o.nil f) t) (last o L f t) (acc_last L f t))

    -- the window of a difference
    last-sub : (L : ℕ) (f h : ℕ → A) (t : ℕ) → last o L (λ i. o.sub (f i) (h i)) t ≡ o.sub (last o L f t) (last o L h t)
    unfolding last
    last-sub zero f h t = sym (sub_self o g o.nil)
    last-sub (suc L) f h zero = refl
    last-sub (suc L) f h (suc t) =
        ap (λ y. o.add y (o.sub (f (suc t)) (h (suc t)))) (last-sub L f h t)
        ∙ sym (sub_medial o g (last o L f t) (f (suc t)) (last o L h t) (h (suc t)))

    last-behind : (L : ℕ) (f : ℕ → A) (t : ℕ) → last o L (behind f) t ≡ behind (last o L f) t
    unfolding last behind
    last-behind zero f zero = refl
    last-behind zero f (suc t) = refl
    last-behind (suc L) f zero = refl
    last-behind (suc L) f (suc zero) = ap (λ y. o.add y (f 0)) (last-behind L f 0) ∙ nil-add o g (f 0)
    last-behind (suc L) f (suc (suc t)) = ap (λ y. o.add y (f (suc t))) (last-behind L f (suc t))

    last_late : (L K : ℕ) (f : ℕ → A) → last o L (late K f) ≡ late K (last o L f)
    last_late L K f =
        ap (last o L) (late_iter K f) ∙ iter_across behind behind (last o L) (λ h. fun_ext (last-behind L h)) K f
        ∙ sym (late_iter K (last o L f))

    last_lagz : (L K : ℕ) (f : ℕ → A) → last o L (lagz K f) ≡ lagz K (last o L f)
    unfolding lagz
    last_lagz L K f = fun_ext (λ t. last-sub L f (late K f) t ∙ ap (λ (h : ℕ → A). o.sub (last o L f t) (h t)) (last_late L K f))

    -- n integrators and n combs, all at one rate
    both : (L n : ℕ) (x : ℕ → A) → iter (lagz L) n (iter (acc o o.nil) n x) ≡ moving o L n x
    unfolding iter
    both L zero x = sym (moving_iter o L 0 x)
    both L (suc n) x =
        let more : last o L (moving o L n x) ≡ moving o L (suc n) x = unfold moving in refl in
        ap (λ h. iter (lagz L) n (lagz L h)) (iter_out (acc o o.nil) n x)
        ∙ ap (iter (lagz L) n) (lagz_acc L (iter (acc o o.nil) n x))
        ∙ sym (iter_across (lagz L) (lagz L) (last o L) (last_lagz L L) n (iter (acc o o.nil) n x))
        ∙ ap (last o L) (both L n x)
        ∙ more

    -- the decimator's cascade from zero
    pub falls_from_zero : (N M r : ℕ) (x : ℕ → A) (k : ℕ)
        → comb_val o (replicate N (replicate M o.nil)) (down (suc r) 0 (int_val o (replicate N o.nil) x)) k
        ≡ moving o (suc r * M) N x (k * suc r)
    unfolding down
    falls_from_zero N M r x k =
        ap (λ (h : ℕ → A). h k)
        (combs_iter M N (down (suc r) 0 (int_val o (replicate N o.nil) x))
        ∙ ap (λ h. iter (lagz M) N (down (suc r) 0 h)) (ints_iter N x)
        ∙ sym (iter_across (lagz (M * suc r)) (lagz M) (down (suc r) 0) (lagz_down r M) N (iter (acc o o.nil) N x))
        ∙ ap (down (suc r) 0) (both (M * suc r) N x))
        ∙ ap₂ (λ L t. moving o L N x t) (mul_comm M (suc r)) (zero-add (k * suc r))

    -- integrators and combs commute
    pre_sub : (f k : ℕ → A) (t : ℕ) → pre o o.nil (λ i. o.sub (f i) (k i)) t ≡ o.sub (pre o o.nil f t) (pre o o.nil k t)
    unfolding pre
    pre_sub f k zero = sym (sub_self o g o.nil)
    pre_sub f k (suc t) =
        ap (λ y. o.add y (o.sub (f t) (k t))) (pre_sub f k t) ∙ sym (sub_medial o g (pre o o.nil f t) (f t) (pre o o.nil k t) (k t))

    pre_behind : (f : ℕ → A) (t : ℕ) → pre o o.nil (behind f) (suc t) ≡ pre o o.nil f t
    unfolding pre behind
    pre_behind f zero = g.add_nil o.nil
    pre_behind f (suc t) = ap (λ y. o.add y (f t)) (pre_behind f t)

    acc_behind : (f : ℕ → A) (t : ℕ) → acc o o.nil (behind f) t ≡ behind (acc o o.nil f) t
    unfolding acc behind
    acc_behind f zero = let none : pre o o.nil f 0 ≡ o.nil = unfold pre in refl in pre_behind f 0 ∙ none
    acc_behind f (suc t) = pre_behind f (suc t)

    acc_late : (K : ℕ) (f : ℕ → A) → acc o o.nil (late K f) ≡ late K (acc o o.nil f)
    acc_late K f =
        ap (acc o o.nil) (late_iter K f)
        ∙ iter_across behind behind (acc o o.nil) (λ k. fun_ext (acc_behind k)) K f
        ∙ sym (late_iter K (acc o o.nil f))

    acc_lagz : (K : ℕ) (f : ℕ → A) → lagz K (acc o o.nil f) ≡ acc o o.nil (lagz K f)
    unfolding lagz acc
    acc_lagz K f =
        fun_ext (λ t. ap (λ (k : ℕ → A). o.sub (acc o o.nil f t) (k t)) (sym (acc_late K f)) ∙ sym (pre_sub f (late K f) (suc t)))

    -- the interpolator's cascade from zero
    pub rises_from_zero : (N M r : ℕ) (x : ℕ → A)
        → int_val o (replicate N o.nil) (held (suc r) (comb_val o (replicate N (replicate M o.nil)) x))
        ≡ moving o (suc r * M) N (held (suc r) x)
    rises_from_zero N M r x =
        ints_iter N (held (suc r) (comb_val o (replicate N (replicate M o.nil)) x))
        ∙ ap (λ f. iter (acc o o.nil) N (held (suc r) f)) (combs_iter M N x)
        ∙ ap (iter (acc o o.nil) N) (iter_across (lagz M) (lagz (M * suc r)) (held (suc r)) (held_lagz r M) N x)
        ∙ iter_across (lagz (M * suc r)) (lagz (M * suc r)) (iter (acc o o.nil) N)
        (λ f. sym (iter_across (acc o o.nil) (acc o o.nil) (lagz (M * suc r)) (acc_lagz (M * suc r)) N f)) N (held (suc r) x)
        ∙ both (M * suc r) N (held (suc r) x)
        ∙ ap (λ L. moving o L N (held (suc r) x)) (mul_comm M (suc r))
