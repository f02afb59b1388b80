-- Without timestamps the loop coasts: each step adds the same frequency to the phase, and nothing else changes.
use mathlib.Core.Path.{◌≡◌, refl, sym, ap, ◌∙◌}
use Prim.Native.Nat.{ℕ, zero, suc, ◌+◌, ◌*◌, ◌%◌, ◌^◌}
use native.Mathlib.Omega.{arith}
use lib.IntN.{ℤ, pos, ◌+ℤ◌, ◌*ℤ◌, zero-*ℤ, +ℤ_assoc, +ℤ_idr}
use mir.Syntax.{w32}
use mir.Val.{SFits}
use Rattle.words.specs.Words.{word, wrap}
use Rattle.words.proofs.Reading.{wrap_is}
use Rattle.words.proofs.Std.{word_of_32}
use Rattle.words.proofs.Sums.{equal, wrapped, worded, same_add, wrap-same}
use Rattle.rpll.specs.declared.RPLL.{RPLL}
use Rattle.rpll.specs.declared.RPLLConfig.{RPLLConfig}
use Rattle.std.specs.Prelude.{None}
use Rattle.blocks.specs.Refusals.{answer}
use Rattle.rpll.specs.Loops.{config_number, advanced_of, Processed, estimated_of, processed_of}

-- what is added may be wrapped before
pub added : (y z : ℤ) → wrap w32 (y +ℤ wrap w32 z) ≡ wrap w32 (y +ℤ z)
added y z = wrap-same (same_add {a = y} (equal refl) (wrapped w32 z))

pub joined : (n : ℕ) (z : ℤ) → (n + word w32 z) % 2 ^ 32 ≡ word w32 (pos n +ℤ z)
joined n z = sym (word_of_32 (n + word w32 z)) ∙ (same_add {a = pos n} (equal refl) (worded w32 z)).same

-- the state after n steps without a timestamp
unfoldable pub coasted : RPLLConfig → RPLL → ℕ → RPLL
coasted c s zero = s
coasted c s (suc n) = (processed_of c (coasted c s n) None).state

-- the phase is y + n f modulo 2 ^ 32
abbrev pub coasted_phase : RPLL → ℕ → ℤ
coasted_phase s n = wrap w32 (s.y +ℤ pos n *ℤ pos s.f)

one_more_law : (y : ℤ) (n f : ℕ) → wrap w32 (wrap w32 (y +ℤ pos n *ℤ pos f) +ℤ pos f) ≡ wrap w32 (y +ℤ pos (suc n) *ℤ pos f)
one_more_law y n f =
    let e : n * f + f ≡ suc n * f = omega arith in
    wrap-same (same_add {c = pos f} (wrapped w32 (y +ℤ pos (n * f))) (equal refl))
    ∙ ap (wrap w32) (+ℤ_assoc y (pos (n * f)) (pos f) ∙ ap (λ (k : ℕ). y +ℤ pos k) e)

module _ (c : RPLLConfig) (accepted : config_number c ≡ 0) where
  -- a step without a timestamp answers and keeps the advanced state
  pub idle : (s : RPLL) → processed_of c s None ≡ estimated_of (advanced_of s)
  unfolding answer
  idle s = rw accepted refl

  pub coasts : (s : RPLL) → SFits w32 s.y → (n : ℕ)
      → coasted c s n ≡ record { x = s.x; ff = s.ff; f = s.f; y = coasted_phase s n }
  unfolding coasted
  coasts s h zero = rw (zero-*ℤ (pos s.f), +ℤ_idr s.y, wrap_is w32 s.y h)
  coasts s h (suc n) =
      ap (λ (p : Processed). p.state) (idle (coasted c s n)) ∙ ap advanced_of (coasts s h n) ∙ rw (one_more_law s.y n s.f)
