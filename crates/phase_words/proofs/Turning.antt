-- Delta is the difference and what the wrap added, and only one sign leads to a word: unwrap's law of what wrapping adds.
use mathlib.Core.Path.{◌≡◌, refl, sym, ap, ◌∙◌}
use Prim.Native.Nat.{◌^◌}
use lib.IntN.{ℤ, pos, ◌+ℤ◌, ◌-ℤ◌, ◌*ℤ◌, +ℤ_comm, +ℤ_idr, -ℤ-+ℤ_cancel, +ℤ-neg_ℤ_cancel}
use mir.Syntax.{w32}
use Rattle.words.specs.Words.{wrap}
use Rattle.words.proofs.Reading.{wrap-fits}
use Rattle.words.proofs.Sums.{equal, turn, ◌and◌, wrapped, same_add, turns, same_is}
use Rattle.unwrap.specs.declared.wrapping.Wrap.{Wrap}
use Rattle.unwrap.specs.Phases.{sign_of, case_of, difference_of}
use Rattle.unwrap.proofs.Turning.{wraps, case_turns, within, sign_is}
use Rattle.phase_words.specs.Phases.{DeltaIs, OnlySign}

-- delta is what the wrap added, and the difference
pub delta_is : DeltaIs
unfolding difference_of
delta_is y x hy hx =
    let t = wraps (y -ℤ x) (within y x hy hx) in
    sym (-ℤ-+ℤ_cancel (wrap w32 (y -ℤ x)) (y -ℤ x))
    ∙ ap (λ (d : ℤ). d +ℤ (y -ℤ x)) (t.apart ∙ ap (λ (s : Wrap). sign_of s *ℤ pos (2 ^ 32)) (sym (sign_is y x hy hx)))
    ∙ +ℤ_comm (sign_of (difference_of y x).wrap *ℤ pos (2 ^ 32)) (y -ℤ x)

-- what fits is the wrapped difference, so it is as many turns away
pub only_sign : OnlySign
unfolding difference_of
only_sign y x hy hx s f =
    let d : ℤ = y -ℤ x +ℤ sign_of s *ℤ pos (2 ^ 32) in
    let e : d ≡ wrap w32 (y -ℤ x) =
    same_is (same_add {a = y -ℤ x} (equal refl) (turns w32 (sign_of s)) and equal (+ℤ_idr (y -ℤ x)) and turn (wrapped w32 (y -ℤ x))) f
    (wrap-fits w32 (y -ℤ x)) in
    sym (case_turns s)
    ∙ ap case_of
    (sym (+ℤ-neg_ℤ_cancel (sign_of s *ℤ pos (2 ^ 32)) (y -ℤ x))
    ∙ ap (λ (z : ℤ). z -ℤ (y -ℤ x)) (+ℤ_comm (sign_of s *ℤ pos (2 ^ 32)) (y -ℤ x) ∙ e))
