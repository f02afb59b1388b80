-- Products of whole numbers: they spread over sums, and group either way.
use Rattle.std.proofs.Common.{◌≡◌, zero, suc, ◌*◌, ℤ, pos, negsuc, ◌+ℤ◌, ◌-ℤ◌, ◌*ℤ◌, neg_ℤ, sym, refl, ap, ◌∙◌}
use lib.IntN.{suc_ℤ, pred_ℤ, +ℤ_idl, +ℤ_assoc, +ℤ_comm, neg_ℤ-neg_ℤ, suc_ℤ-+ℤ, pred_ℤ-+ℤ}
use lib.IntN.{zero-*ℤ, suc_ℤ-*ℤ, pred_ℤ-*ℤ, *ℤ_comm}

-- a + b + c = a + c + b
pub swap : (a b c : ℤ) → a +ℤ b +ℤ c ≡ a +ℤ c +ℤ b
swap a b c = +ℤ_assoc a b c ∙ ap (λ (z : ℤ). a +ℤ z) (+ℤ_comm b c) ∙ sym (+ℤ_assoc a c b)

module _ (b c : ℤ) where
  up : (a : ℤ) → (a +ℤ b) *ℤ c ≡ a *ℤ c +ℤ b *ℤ c → (suc_ℤ a +ℤ b) *ℤ c ≡ suc_ℤ a *ℤ c +ℤ b *ℤ c
  up a e =
      ap (λ (z : ℤ). z *ℤ c) (suc_ℤ-+ℤ a b) ∙ suc_ℤ-*ℤ (a +ℤ b) c ∙ ap (λ (z : ℤ). z +ℤ c) e
      ∙ swap (a *ℤ c) (b *ℤ c) c ∙ ap (λ (z : ℤ). z +ℤ b *ℤ c) (sym (suc_ℤ-*ℤ a c))

  down : (a : ℤ) → (a +ℤ b) *ℤ c ≡ a *ℤ c +ℤ b *ℤ c → (pred_ℤ a +ℤ b) *ℤ c ≡ pred_ℤ a *ℤ c +ℤ b *ℤ c
  down a e =
      ap (λ (z : ℤ). z *ℤ c) (pred_ℤ-+ℤ a b) ∙ pred_ℤ-*ℤ (a +ℤ b) c ∙ ap (λ (z : ℤ). z -ℤ c) e
      ∙ swap (a *ℤ c) (b *ℤ c) (neg_ℤ c) ∙ ap (λ (z : ℤ). z +ℤ b *ℤ c) (sym (pred_ℤ-*ℤ a c))

  none : (pos zero +ℤ b) *ℤ c ≡ pos zero *ℤ c +ℤ b *ℤ c
  none = ap (λ (z : ℤ). z *ℤ c) (+ℤ_idl b) ∙ sym (+ℤ_idl (b *ℤ c)) ∙ ap (λ (z : ℤ). z +ℤ b *ℤ c) (sym (zero-*ℤ c))

  pub spread : (a : ℤ) → (a +ℤ b) *ℤ c ≡ a *ℤ c +ℤ b *ℤ c
  spread (pos zero) = none
  spread (pos (suc n)) = up (pos n) (spread (pos n))
  spread (negsuc zero) = down (pos zero) none
  spread (negsuc (suc n)) = down (negsuc n) (spread (negsuc n))

neg_times : (b c : ℤ) → neg_ℤ b *ℤ c ≡ neg_ℤ (b *ℤ c)
neg_times (pos zero) c = zero-*ℤ c ∙ ap neg_ℤ (sym (zero-*ℤ c))
neg_times (pos (suc n)) (pos k) = refl
neg_times (pos (suc n)) (negsuc k) = sym (neg_ℤ-neg_ℤ (pos (suc n * suc k)))
neg_times (negsuc n) (pos k) = sym (neg_ℤ-neg_ℤ (pos (suc n * k)))
neg_times (negsuc n) (negsuc k) = refl

module _ (b c : ℤ) where
  more : (a : ℤ) → (a *ℤ b) *ℤ c ≡ a *ℤ (b *ℤ c) → (suc_ℤ a *ℤ b) *ℤ c ≡ suc_ℤ a *ℤ (b *ℤ c)
  more a e =
      ap (λ (z : ℤ). z *ℤ c) (suc_ℤ-*ℤ a b) ∙ spread b c (a *ℤ b) ∙ ap (λ (z : ℤ). z +ℤ b *ℤ c) e ∙ sym (suc_ℤ-*ℤ a (b *ℤ c))

  less : (a : ℤ) → (a *ℤ b) *ℤ c ≡ a *ℤ (b *ℤ c) → (pred_ℤ a *ℤ b) *ℤ c ≡ pred_ℤ a *ℤ (b *ℤ c)
  less a e =
      ap (λ (z : ℤ). z *ℤ c) (pred_ℤ-*ℤ a b) ∙ spread (neg_ℤ b) c (a *ℤ b) ∙ ap (λ (z : ℤ). z +ℤ neg_ℤ b *ℤ c) e
      ∙ ap (λ (z : ℤ). a *ℤ (b *ℤ c) +ℤ z) (neg_times b c) ∙ sym (pred_ℤ-*ℤ a (b *ℤ c))

  nothing : (pos zero *ℤ b) *ℤ c ≡ pos zero *ℤ (b *ℤ c)
  nothing = ap (λ (z : ℤ). z *ℤ c) (zero-*ℤ b) ∙ zero-*ℤ c ∙ sym (zero-*ℤ (b *ℤ c))

  pub group : (a : ℤ) → (a *ℤ b) *ℤ c ≡ a *ℤ (b *ℤ c)
  group (pos zero) = nothing
  group (pos (suc n)) = more (pos n) (group (pos n))
  group (negsuc zero) = less (pos zero) nothing
  group (negsuc (suc n)) = less (negsuc n) (group (negsuc n))

-- a b c = a c b
pub regroup : (a b c : ℤ) → (a *ℤ b) *ℤ c ≡ (a *ℤ c) *ℤ b
regroup a b c = group b c a ∙ ap (λ (z : ℤ). a *ℤ z) (*ℤ_comm b c) ∙ sym (group c b a)
