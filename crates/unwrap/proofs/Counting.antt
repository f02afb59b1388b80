-- The turn count as the code finds it: y less its phase is a whole number of turns.
use mathlib.Core.Path.{◌≡◌, refl, sym, ap, ◌∙◌}
use mathlib.Core.Bool.{Bool, true, false}
use Prim.Native.Nat.{◌^◌, ◌<◌, ◌≤◌}
use native.Mathlib.Omega.{arith}
use lib.Dec.{ltb}
use lib.IntN.{ℤ, pos, ◌+ℤ◌, ◌-ℤ◌, ◌*ℤ◌, suc_ℤ-*ℤ, +ℤ_one, +ℤ_assoc, +ℤ_comm, +ℤ-neg_ℤ_cancel, -ℤ-+ℤ_cancel}
use lib.Signed.{lt_z}
use borrow.Author.Tests.{ltb-true, ltb-false, le-ltb}
use mir.Syntax.{w32, w64}
use mir.Val.{SFits}
use Rattle.words.specs.Words as W
use Rattle.words.specs.Words.{word, wrap, floor_div}
use Rattle.words.proofs.Reading.{wrap_is}
use Rattle.words.proofs.Sizes.{high_fits}
use Rattle.words.proofs.Floors.{halves, floor_exact, wrap-low, wrap-high}
use Rattle.unwrap.specs.Phases.{phase_of, turns_of}

-- the whole turns of y less its phase: one more where the phase lies below zero
abbrev pub onward : Bool → ℤ → ℤ
onward true f = f +ℤ pos 1
onward false f = f

high_sign : (y : ℤ) → 2 ^ 31 ≤ word w32 y → lt_z (phase_of y) (pos 0) ≡ true
unfolding W.wrap
high_sign y l = rw (le-ltb (word w32 y) (2 ^ 31) l)

pub apart : (y : ℤ) (b : Bool) → lt_z (phase_of y) (pos 0) ≡ b → y -ℤ phase_of y ≡ onward b (floor_div y (2 ^ 32)) *ℤ pos (2 ^ 32)
apart y b t = pick (ltb (word w32 y) (2 ^ 31)) refl b t
  where
    F : ℤ
    F = floor_div y (2 ^ 32)

    low : word w32 y < 2 ^ 31 → y -ℤ phase_of y ≡ F *ℤ pos (2 ^ 32)
    low l =
        ap (λ (z : ℤ). z -ℤ phase_of y) (sym (halves y) ∙ ap (λ (z : ℤ). F *ℤ pos (2 ^ 32) +ℤ z) (sym (wrap-low w32 y l)))
        ∙ +ℤ-neg_ℤ_cancel (F *ℤ pos (2 ^ 32)) (phase_of y)

    high : 2 ^ 31 ≤ word w32 y → y -ℤ phase_of y ≡ (F +ℤ pos 1) *ℤ pos (2 ^ 32)
    high l =
        ap (λ (z : ℤ). z -ℤ phase_of y)
        (sym (halves y)
        ∙ ap (λ (z : ℤ). F *ℤ pos (2 ^ 32) +ℤ z)
        (sym (-ℤ-+ℤ_cancel (pos (word w32 y)) (pos (2 ^ 32))) ∙ +ℤ_comm (pos (word w32 y) -ℤ pos (2 ^ 32)) (pos (2 ^ 32)))
        ∙ sym (+ℤ_assoc (F *ℤ pos (2 ^ 32)) (pos (2 ^ 32)) (pos (word w32 y) -ℤ pos (2 ^ 32)))
        ∙ ap (λ (z : ℤ). F *ℤ pos (2 ^ 32) +ℤ pos (2 ^ 32) +ℤ z) (sym (wrap-high w32 y l)))
        ∙ +ℤ-neg_ℤ_cancel (F *ℤ pos (2 ^ 32) +ℤ pos (2 ^ 32)) (phase_of y)
        ∙ sym (ap (λ (z : ℤ). z *ℤ pos (2 ^ 32)) (+ℤ_one F) ∙ suc_ℤ-*ℤ F (pos (2 ^ 32)))

    low_sign : word w32 y < 2 ^ 31 → lt_z (phase_of y) (pos 0) ≡ false
    low_sign l = rw (wrap-low w32 y l) (le-ltb (word w32 y) 0 (omega arith))

    pick : (h : Bool) → ltb (word w32 y) (2 ^ 31) ≡ h → (c : Bool) → lt_z (phase_of y) (pos 0) ≡ c
        → y -ℤ phase_of y ≡ onward c F *ℤ pos (2 ^ 32)
    pick true e c s = rw (sym s ∙ low_sign (ltb-true (word w32 y) (2 ^ 31) e)) (low (ltb-true (word w32 y) (2 ^ 31) e))
    pick false e c s = rw (sym s ∙ high_sign y (ltb-false (word w32 y) (2 ^ 31) e)) (high (ltb-false (word w32 y) (2 ^ 31) e))

pub turns_are : (y : ℤ) (b : Bool) → lt_z (phase_of y) (pos 0) ≡ b → turns_of y ≡ wrap w32 (onward b (floor_div y (2 ^ 32)))
unfolding turns_of
turns_are y b t =
    ap (wrap w32) (ap (λ (z : ℤ). floor_div z (2 ^ 32)) (apart y b t) ∙ floor_exact (onward b (floor_div y (2 ^ 32))) (2 ^ 32) (omega arith))

-- what the code finds
pub one_more_law : (y : ℤ) → lt_z (phase_of y) (pos 0) ≡ true → wrap w32 (floor_div y (2 ^ 32) +ℤ pos 1) ≡ turns_of y
one_more_law y t = sym (turns_are y true t)

pub as_it_is : (y : ℤ) → SFits w64 y → lt_z (phase_of y) (pos 0) ≡ false → floor_div y (2 ^ 32) ≡ turns_of y
as_it_is y f t = sym (turns_are y false t ∙ wrap_is w32 (floor_div y (2 ^ 32)) (high_fits y f))
