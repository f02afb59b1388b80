-- What the adapters are to each other: Z passes, X swaps, B1 is B and C1 is C, and at coefficient 0 B is X and C is X with
-- both signs changed.
use Rattle.std.proofs.Common.{◌≡◌, ℤ, pos, ◌+ℤ◌, ◌-ℤ◌, neg_ℤ, sym, refl, ap, ◌∙◌, w32, SFits}
use lib.IntN.{+ℤ_idl, +ℤ_assoc, +ℤ_comm, -ℤ-+ℤ_cancel, neg_ℤ-neg_ℤ, *ℤ-zero}
use Rattle.words.specs.Words.{wrap}
use Rattle.words.proofs.Reading.{wrap_is}
use Rattle.words.proofs.Sums.{wrap-add}
use Rattle.adapters.specs.declared.tpa.Tpa.TheVariants.{Z, B, B1, X, C, C1}
use Rattle.adapters.specs.Adapters.{minus, scaled, ports, adapted, SameAdapters}

-- the difference d takes u to v
carried : (p u v d : ℤ) → d ≡ v -ℤ u → wrap w32 (wrap w32 (p +ℤ u) +ℤ wrap w32 d) ≡ wrap w32 (p +ℤ v)
carried p u v d e =
    wrap-add w32 (p +ℤ u) d
    ∙ ap (wrap w32) (+ℤ_assoc p u d ∙ ap (λ (k : ℤ). p +ℤ k) (+ℤ_comm u d ∙ ap (λ (k : ℤ). k +ℤ u) e ∙ -ℤ-+ℤ_cancel v u))

turned : (u v : ℤ) → u -ℤ v ≡ neg_ℤ v -ℤ neg_ℤ u
turned u v = +ℤ_comm u (neg_ℤ v) ∙ ap (λ (k : ℤ). neg_ℤ v +ℤ k) (sym (neg_ℤ-neg_ℤ u))

nothing : (c : ℤ) → scaled c (pos 0) ≡ pos 0
nothing c = rw (*ℤ-zero c)

module _ (x0 x1 a : ℤ) where
  pub z_passes : adapted Z x0 x1 a ≡ ports x0 x1
  unfolding adapted
  z_passes = refl

  pub x_swaps : adapted X x0 x1 a ≡ ports x1 x0
  unfolding adapted
  x_swaps = refl

  pub b1_is_b : adapted B1 x0 x1 a ≡ adapted B x0 x1 a
  unfolding adapted
  b1_is_b = rw (carried (scaled (minus x0 x1) a) x1 x0 (x0 -ℤ x1) refl)

  pub c1_is_c : adapted C1 x0 x1 a ≡ adapted C x0 x1 a
  unfolding adapted
  c1_is_c = rw (carried (scaled (minus x1 x0) a) (neg_ℤ x1) (neg_ℤ x0) (x1 -ℤ x0) (turned x1 x0))

module _ (x0 x1 : ℤ) where
  pub b_swaps : SFits w32 x0 → SFits w32 x1 → adapted B x0 x1 (pos 0) ≡ ports x1 x0
  unfolding adapted
  b_swaps h0 h1 = sym (b1_is_b x0 x1 (pos 0)) ∙ rw (nothing (minus x0 x1), +ℤ_idl x1, +ℤ_idl x0, wrap_is w32 x1 h1, wrap_is w32 x0 h0)

  -- of - 2 ^ 31, which has no opposite, the sign stays
  pub c_swaps_signs : adapted C x0 x1 (pos 0) ≡ ports (wrap w32 (neg_ℤ x1)) (wrap w32 (neg_ℤ x0))
  unfolding adapted
  c_swaps_signs = sym (c1_is_c x0 x1 (pos 0)) ∙ rw (nothing (minus x1 x0), +ℤ_idl (neg_ℤ x1), +ℤ_idl (neg_ℤ x0))

pub same_adapters : SameAdapters
same_adapters = record { b1_is_b = b1_is_b; c1_is_c = c1_is_c }
