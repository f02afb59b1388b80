-- Sums that are wrapped in turn are wrapped once; tests on words are tests on their numbers.
use mathlib.Core.Path.{◌≡◌, ap, ◌∙◌}
use mathlib.Core.Bool.{Bool}
use Prim.Native.Nat.{◌+◌, ◌%◌}
use lib.IntN.{ℤ, ◌+ℤ◌}
use lib.Signed.{lt_z}
use mir.Syntax.{Width, w32, w64}
use mir.Val.{SFits, to_z, of_z}
use mir.ValLaws.{to_z-of_z}
use Rattle.words.specs.Words.{wrap}
use Rattle.words.proofs.Std.{add_bits, add_onto, add_from, rest_fits_64}
use Rattle.words.proofs.Sums.{wrap_left, wrap_right}

pub wrap_inner : (w : Width) (a b d : ℤ) → wrap w (wrap w (wrap w a +ℤ b) +ℤ d) ≡ wrap w (a +ℤ b +ℤ d)
wrap_inner w a b d = ap (λ (z : ℤ). wrap w (z +ℤ d)) (wrap_left w a b) ∙ wrap_left w (a +ℤ b) d

-- a sum of three, from the left
pub three : (a b d : ℤ) → SFits w64 a → SFits w64 b → SFits w64 d
    → to_z w64 (((of_z w64 a + of_z w64 b) % 18446744073709551616 + of_z w64 d) % 18446744073709551616) ≡ wrap w64 (a +ℤ b +ℤ d)
three a b d p q r =
    add_onto w64 ((of_z w64 a + of_z w64 b) % 18446744073709551616) d (rest_fits_64 _) r
    ∙ ap (λ (z : ℤ). wrap w64 (z +ℤ d)) (add_bits w64 a b p q)
    ∙ wrap_left w64 (a +ℤ b) d

-- a sum of four, from the right
pub four : (a b d e : ℤ) → SFits w64 a → SFits w64 b → SFits w64 d → SFits w64 e
    → to_z w64 ((of_z w64 a + (of_z w64 b + (of_z w64 d + of_z w64 e) % 18446744073709551616) % 18446744073709551616) % 18446744073709551616)
    ≡ wrap w64 (a +ℤ (b +ℤ (d +ℤ e)))
four a b d e p q r s =
    let inner = (of_z w64 d + of_z w64 e) % 18446744073709551616 in
    add_from w64 a ((of_z w64 b + inner) % 18446744073709551616) p (rest_fits_64 _)
    ∙ ap (λ (z : ℤ). wrap w64 (a +ℤ z))
    (add_from w64 b inner q (rest_fits_64 _) ∙ ap (λ (z : ℤ). wrap w64 (b +ℤ z)) (add_bits w64 d e r s) ∙ wrap_right w64 b (d +ℤ e))
    ∙ wrap_right w64 a (b +ℤ (d +ℤ e))

-- as the machine has a test and as a reader has it
pub tested_lt : (y x : ℤ) {b : Bool} → SFits w32 y → SFits w32 x → lt_z (to_z w32 (of_z w32 y)) (to_z w32 (of_z w32 x)) ≡ b → lt_z y x ≡ b
tested_lt y x h k e = rw (to_z-of_z w32 y h, to_z-of_z w32 x k) at e
