-- Sequences of words, compared as functions: integrators, differences over L steps and sums of L values ahead are operators on them.
-- `diff L (acc a f) ≡ fwd L f` for any first content a, the two commute, and N folds of `fwd L` are the moving sum, N L steps on.
use mathlib.Core.Path.{◌≡◌, refl, sym, ap, ap₂, fun_ext, ◌∙◌}
use Prim.Native.Nat.{ℕ, zero, suc, ◌+◌, ◌*◌}
use native.Mathlib.Omega.{arith}
use native.Mathlib.Nat.{add-zero, add-suc, suc-add}
use Rattle.sums.specs.Ops.{Ops, Laws}
use Rattle.sums.specs.Moving.{last, moving}
use Rattle.sums.proofs.Groups.{add-sub_left, sub_self, sub_medial}

-- F applied n times
unfoldable pub iter : {X : Type 0} → (X → X) → ℕ → X → X
iter F zero f = f
iter F (suc n) f = iter F n (F f)

pub iter_out : {X : Type 0} (F : X → X) (n : ℕ) (f : X) → iter F n (F f) ≡ F (iter F n f)
unfolding iter
iter_out F zero f = refl
iter_out F (suc n) f = iter_out F n (F f)

-- what goes from F to K goes from F applied n times to K applied n times
pub iter_across : {X Y : Type 0} (F : X → X) (K : Y → Y) (H : X → Y) → ((f : X) → H (F f) ≡ K (H f)) → (n : ℕ) (f : X) → H (iter F n f)
    ≡ iter K n (H f)
unfolding iter
iter_across F K H e zero f = refl
iter_across F K H e (suc n) f = iter_across F K H e n (F f) ∙ ap (iter K n) (e f)

-- a sequence from its value number m on
unfoldable pub shift : {A : Type 0} → ℕ → (ℕ → A) → ℕ → A
shift m f i = f (i + m)

-- every R-th value of a sequence, from number c on
unfoldable pub down : {A : Type 0} → ℕ → ℕ → (ℕ → A) → ℕ → A
down R c f k = f (c + k * R)

module _ {A : Type 0} (o : Ops A) where
  -- a and the first t values of f
  unfoldable pub pre : A → (ℕ → A) → ℕ → A
  pre a f zero = a
  pre a f (suc t) = o.add (pre a f t) (f t)

  -- the values of an integrator that held a at first: after each input
  unfoldable pub acc : A → (ℕ → A) → ℕ → A
  acc a f t = pre a f (suc t)

  -- the sum of L values from s on
  unfoldable pub win : ℕ → (ℕ → A) → ℕ → A
  win zero f s = o.nil
  win (suc L) f s = o.add (win L f s) (f (s + L))

  -- the difference over L steps, from s on
  unfoldable pub diff : ℕ → (ℕ → A) → ℕ → A
  diff L f s = o.sub (f (s + L)) (f s)

  -- the sum of the L values after s
  unfoldable pub fwd : ℕ → (ℕ → A) → ℕ → A
  fwd L f s = win L f (suc s)

  pub diff_shift : (L m : ℕ) (f : ℕ → A) → shift m (diff L f) ≡ diff L (shift m f)
  unfolding diff shift
  diff_shift L m f = fun_ext (λ s. ap (λ n. o.sub (f n) (f (s + m))) (omega arith))

  pub diff_down : (R c M : ℕ) (f : ℕ → A) → down R c (diff (M * R) f) ≡ diff M (down R c f)
  unfolding diff down
  diff_down R c M f = fun_ext (λ k. ap (λ n. o.sub (f n) (f (c + k * R))) (omega arith))

  win_shift : (L m : ℕ) (f : ℕ → A) (s : ℕ) → win L (shift m f) s ≡ win L f (s + m)
  unfolding win shift
  win_shift zero m f s = refl
  win_shift (suc L) m f s = ap₂ o.add (win_shift L m f s) (ap f (omega arith))

  fwd_shift : (L m : ℕ) (f : ℕ → A) → shift m (fwd L f) ≡ fwd L (shift m f)
  unfolding fwd shift
  fwd_shift L m f = fun_ext (λ s. ap (win L f) (sym (suc-add s m)) ∙ sym (win_shift L m f (suc s)))

  -- the last L values at t + L are those ahead of t
  last_win : (L : ℕ) (f : ℕ → A) (t : ℕ) → last o L f (t + L) ≡ fwd L f t
  unfolding last fwd win
  last_win zero f t = rw add-zero
  last_win (suc L) f t = rw (add-suc t L) (ap₂ o.add (last_win L f t) (ap f (sym (suc-add t L))))

  -- the moving sum from the time on at which it has come to know whole windows only
  pub moving_fwd : (L n : ℕ) (x : ℕ → A) → shift (n * L) (moving o L n x) ≡ iter (fwd L) n x
  unfolding moving shift iter
  moving_fwd L zero x = fun_ext (λ s. ap x (omega arith))
  moving_fwd L (suc n) x =
      fun_ext (λ s. ap (last o L (moving o L n x)) (omega arith) ∙ last_win L (moving o L n x) (s + n * L))
      ∙ fwd_shift L (n * L) (moving o L n x)
      ∙ ap (fwd L) (moving_fwd L n x)
      ∙ sym (iter_out (fwd L) n x)

  pub moving_iter : (L n : ℕ) (x : ℕ → A) → moving o L n x ≡ iter (last o L) n x
  unfolding moving iter
  moving_iter L zero x = refl
  moving_iter L (suc n) x = ap (last o L) (moving_iter L n x) ∙ sym (iter_out (last o L) n x)

  module _ (g : Laws o) where
    pre_win : (a : A) (f : ℕ → A) (s L : ℕ) → pre a f (s + L) ≡ o.add (pre a f s) (win L f s)
    unfolding pre win
    pre_win a f s zero = rw add-zero (sym (g.add_nil (pre a f s)))
    pre_win a f s (suc L) = rw add-suc (ap (λ x. o.add x (f (s + L))) (pre_win a f s L) ∙ g.assoc (pre a f s) (win L f s) (f (s + L)))

    diff_acc : (a : A) (f : ℕ → A) (L s : ℕ) → diff L (acc a f) s ≡ win L f (suc s)
    unfolding diff acc
    diff_acc a f L s =
        ap (λ n. o.sub (pre a f n) (pre a f (suc s))) (sym (suc-add s L))
        ∙ ap (λ y. o.sub y (pre a f (suc s))) (pre_win a f (suc s) L)
        ∙ add-sub_left o g (pre a f (suc s)) (win L f (suc s))

    diff_win : (L K : ℕ) (f : ℕ → A) (s : ℕ) → diff L (win K f) s ≡ win K (diff L f) s
    unfolding diff win
    diff_win L zero f s = sub_self o g o.nil
    diff_win L (suc K) f s =
        sub_medial o g (win K f (s + L)) (f (s + L + K)) (win K f s) (f (s + K))
        ∙ ap₂ o.add (diff_win L K f s) (ap (λ n. o.sub (f n) (f (s + K))) (omega arith))

    -- an integrator with any first content, seen over L steps
    pub fwd_acc : (a : A) (L : ℕ) (f : ℕ → A) → diff L (acc a f) ≡ fwd L f
    unfolding fwd
    fwd_acc a L f = fun_ext (λ s. diff_acc a f L s)

    pub diff_fwd : (L : ℕ) (f : ℕ → A) → diff L (fwd L f) ≡ fwd L (diff L f)
    unfolding fwd diff
    diff_fwd L f = fun_ext (λ s. ap (λ n. o.sub (win L f n) (win L f (suc s))) (sym (suc-add s L)) ∙ diff_win L L f (suc s))
