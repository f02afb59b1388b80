-- A number of turns on words is a product modulo 2 ^ w; and lists of one value but for some cells.
use mathlib.Core.Path.{◌≡◌, refl, sym, ap, subst, ◌∙◌}
use mathlib.Core.List.{List, ◌∷◌, ◌++◌}
use Prim.Native.Nat.{ℕ, zero, suc, ◌+◌, ◌-◌, ◌*◌, ◌≤◌, ◌<◌}
use native.Mathlib.Nat.{add-zero, add-suc, mul-zero, mul-suc, mul_comm, suc-sub-suc, sub-zero}
use native.Mathlib.Numerals.{add-one}
use native.Mathlib.Omega.{arith}
use lib.IntN.{ℤ, pos, ◌+ℤ◌, ◌*ℤ◌, +ℤ_assoc, +ℤ_idr, zero-*ℤ, *ℤ-zero, *ℤ_comm, suc_ℤ-*ℤ}
use lib.ListN.{replicate, set, length-replicate}
use lib.Pow.{pow_pos}
use lib.Seq.{set_at}
use mir.Syntax.{Width}
use Rattle.words.specs.Words.{wrap}
use Rattle.words.proofs.Reading.{wrap_is}
use Rattle.words.proofs.Sums.{equal, wrapped, wrap-same, same_add, same-mul}
use Rattle.sums.specs.Ops.{Ops, times}
use Rattle.sums.specs.Signed.{signed_ops}
use Rattle.sums.specs.State.{State}
use Rattle.sums.specs.Calls.{gain, settled_at}
use Rattle.sums.proofs.Steps.{packed}

more : (m n : ℕ) (x : ℤ) → pos (m + n) *ℤ x ≡ pos m *ℤ x +ℤ pos n *ℤ x
more m zero x = rw (add-zero, zero-*ℤ) (sym (+ℤ_idr (pos m *ℤ x)))
more m (suc n) x =
    ap (λ k. pos k *ℤ x) (add-suc m n) ∙ suc_ℤ-*ℤ (pos (m + n)) x ∙ ap (λ z. z +ℤ x) (more m n x)
    ∙ +ℤ_assoc (pos m *ℤ x) (pos n *ℤ x) x ∙ ap (λ z. pos m *ℤ x +ℤ z) (sym (suc_ℤ-*ℤ (pos n) x))

next : (a : ℤ) (n : ℕ) → a *ℤ pos (suc n) ≡ a *ℤ pos n +ℤ a
next a n = *ℤ_comm a (pos (suc n)) ∙ suc_ℤ-*ℤ (pos n) a ∙ ap (λ z. z +ℤ a) (*ℤ_comm (pos n) a)

product : (p n : ℕ) (x : ℤ) → pos (p * n) *ℤ x ≡ (pos p *ℤ x) *ℤ pos n
product p zero x = rw (mul-zero, zero-*ℤ, *ℤ-zero)
product p (suc n) x =
    ap (λ k. pos k *ℤ x) (mul-suc p n) ∙ more (p * n) p x ∙ ap (λ z. z +ℤ pos p *ℤ x) (product p n x) ∙ sym (next (pos p *ℤ x) n)

-- n times x is the product, wrapped
pub times-wrap : (w : Width) (n : ℕ) (x : ℤ) → times (signed_ops w) n x ≡ wrap w (pos n *ℤ x)
unfolding times
times-wrap w zero x = rw zero-*ℤ (sym (wrap_is w (pos 0) (record { sfits = pow_pos _ })))
times-wrap w (suc n) x =
    ap (λ z. wrap w (z +ℤ x)) (times-wrap w n x) ∙ wrap-same (same_add (wrapped w (pos n *ℤ x)) (equal {a = x} refl))
    ∙ ap (wrap w) (sym (suc_ℤ-*ℤ (pos n) x))

-- the product with a number that a word holds, wrapped or not
pub times-product : (w : Width) (n : ℕ) (x y : ℤ) → y ≡ wrap w (pos n) → wrap w (x *ℤ y) ≡ times (signed_ops w) n x
times-product w n x y e =
    ap (λ z. wrap w (x *ℤ z)) e ∙ wrap-same (same-mul (equal {a = x} refl) (wrapped w (pos n))) ∙ ap (wrap w) (*ℤ_comm x (pos n))
    ∙ sym (times-wrap w n x)

-- n times m times x
pub times_times : (w : Width) (n m : ℕ) (x : ℤ) → times (signed_ops w) n (times (signed_ops w) m x) ≡ times (signed_ops w) (n * m) x
times_times w n m x =
    times-wrap w n (times (signed_ops w) m x) ∙ ap (λ z. wrap w (pos n *ℤ z)) (times-wrap w m x)
    ∙ wrap-same (same-mul (equal {a = pos n} refl) (wrapped w (pos m *ℤ x)))
    ∙ ap (wrap w) (*ℤ_comm (pos n) (pos m *ℤ x) ∙ sym (product m n x) ∙ ap (λ k. pos k *ℤ x) (mul_comm m n))
    ∙ sym (times-wrap w (n * m) x)

module _ {A : Type 0} where
  -- one cell of a list of one value
  pub set-replicate : (N n : ℕ) (v d : A) → n < N → set (replicate N d) n v ≡ replicate n d ++ (v ∷ replicate (N - suc n) d)
  set-replicate zero n v d h = absurd (omega arith)
  set-replicate (suc N) zero v d h = rw (suc-sub-suc, sub-zero)
  set-replicate (suc N) (suc n) v d h = rw suc-sub-suc (ap (λ l. d ∷ l) (set-replicate N n v d (omega arith)))

  snoc : (i : ℕ) (x : A) (l : List A) → replicate i x ++ (x ∷ l) ≡ replicate (suc i) x ++ l
  snoc zero x l = refl
  snoc (suc i) x l = ap (λ r. x ∷ r) (snoc i x l)

  -- the first cells of a list of one value, cell by cell
  pub level_turn : (N i : ℕ) (x d : A) → i < N → set (replicate i x ++ replicate (N - i) d) i x
      ≡ replicate (i + 1) x ++ replicate (N - (i + 1)) d
  level_turn N i x d h =
      let e : N - i ≡ suc (N - suc i) = omega arith in
      ap (λ n. set (replicate i x ++ replicate n d) i x) e
      ∙ set_at (replicate i x) d (replicate (N - suc i) d) x i (length-replicate i x)
      ∙ snoc i x (replicate (N - suc i) d)
      ∙ rw (add-one i)

-- the settled state, as the code makes it of the state of zeros
module _ {A : Type 0} (o : Ops A) (s : State A) (x : A) where
  pub settle_none : s.order ≡ 0
      → packed s.order s.delay s.rate 0 0 x (replicate 8 o.nil) (replicate 64 o.nil) ≡ settled_at o s x s.order
  unfolding settled_at
  settle_none e = rw e

  settle_suc : (n : ℕ) → s.order ≡ suc n → n < 8 → (v : A) (line : List A) → v ≡ times o (gain s) x
      → line ≡ replicate s.delay x ++ replicate (64 - s.delay) o.nil
      → packed (suc n) s.delay s.rate 0 0 o.nil (set (replicate 8 o.nil) n v) line ≡ settled_at o s x (suc n)
  unfolding settled_at
  settle_suc n e h v line ev el =
      let rest : 8 - suc n ≡ 7 - n = omega arith in
      rw (set-replicate 8 n v o.nil h, rest, ev, el)

  pub settle_some : 1 ≤ s.order → s.order ≤ 8 → (v : A) (line : List A) → v ≡ times o (gain s) x
      → line ≡ replicate s.delay x ++ replicate (64 - s.delay) o.nil
      → packed s.order s.delay s.rate 0 0 o.nil (set (replicate 8 o.nil) (s.order - 1) v) line
      ≡ settled_at o s x s.order
  settle_some low high v line ev el =
      let e : s.order ≡ suc (s.order - 1) = omega arith in
      subst (λ n. packed n s.delay s.rate 0 0 o.nil (set (replicate 8 o.nil) (s.order - 1) v) line
      ≡ settled_at o s x n) (sym e)
      (settle_suc (s.order - 1) e (omega arith) v line ev el)
