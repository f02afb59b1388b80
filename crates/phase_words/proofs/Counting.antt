-- Turn count and phase make up the unwrapped value: y less its phase is a whole number of turns.
use mathlib.Core.Path.{◌≡◌, refl, sym, ap, ◌∙◌}
use mathlib.Core.Bool.{Bool}
use Prim.Native.Nat.{◌^◌}
use lib.IntN.{ℤ, pos, ◌+ℤ◌, ◌*ℤ◌, -ℤ-+ℤ_cancel}
use lib.Signed.{lt_z}
use mir.Syntax.{w32, w64}
use Rattle.words.specs.Words.{floor_div}
use Rattle.words.proofs.Reading.{wrap_is}
use Rattle.words.proofs.Sums.{Same, equal, ◌and◌, wrapped, same_add, wrap-same}
use Rattle.words.proofs.Floors.{same-scaled}
use Rattle.unwrap.specs.Phases.{phase_of, turns_of}
use Rattle.unwrap.proofs.Counting.{onward, apart, turns_are}
use Rattle.phase_words.specs.Phases.{MadeUp}

-- the turns are told modulo 2 ^ 32, so they make up y modulo 2 ^ 64
alike : (y : ℤ) (b : Bool) → lt_z (phase_of y) (pos 0) ≡ b → Same w64 (turns_of y *ℤ pos (2 ^ 32) +ℤ phase_of y) y
alike y b t =
    let T : ℤ = onward b (floor_div y (2 ^ 32)) in
    same_add (same-scaled w32 w64 32 refl (equal (turns_are y b t) and wrapped w32 T)) (equal refl)
    and equal (ap (λ (z : ℤ). z +ℤ phase_of y) (sym (apart y b t)) ∙ -ℤ-+ℤ_cancel y (phase_of y))

pub made_up : MadeUp
made_up y f = wrap-same (alike y (lt_z (phase_of y) (pos 0)) refl) ∙ wrap_is w64 y f
