-- The wide state taken by its high and its low word is taken whole: the high word's product is a whole number of turns.
use mathlib.Core.Path.{◌≡◌, ap, ap₂, ◌∙◌}
use Prim.Native.Nat.{◌^◌}
use lib.IntN.{ℤ, pos, ◌+ℤ◌, ◌*ℤ◌, +ℤ_comm, *ℤ_comm}
use mir.Syntax.{w32}
use Rattle.words.specs.Words.{word, floor_div}
use Rattle.words.proofs.Floors.{parts}
use Rattle.pll.specs.Loops.{lag_product}

pub split_whole : (a f : ℤ) → a *ℤ floor_div f (2 ^ 32) +ℤ floor_div (a *ℤ pos (word w32 f)) (2 ^ 32) ≡ lag_product a f
split_whole a f =
    let h = floor_div f (2 ^ 32) in
    let l = pos (word w32 f) in
    +ℤ_comm (a *ℤ h) (floor_div (a *ℤ l) (2 ^ 32))
    ∙ ap₂ ◌+ℤ◌ (ap (λ (z : ℤ). floor_div z (2 ^ 32)) (*ℤ_comm a l)) (*ℤ_comm a h)
    ∙ parts f a
    ∙ ap (λ (z : ℤ). floor_div z (2 ^ 32)) (*ℤ_comm f a)
