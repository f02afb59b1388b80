-- 01, 'Phase words': what the wrapped difference and the turn count satisfy.
use Rattle.std.specs.Prelude.{◌≡◌, ◌^◌, ℤ, pos, ◌+ℤ◌, ◌-ℤ◌, ◌*ℤ◌}
use Rattle.std.specs.Int.{w32, w64}
use Rattle.std.proofs.Common.{SFits}
use Rattle.words.specs.Words.{wrap}
use Rattle.unwrap.specs.declared.wrapping.Wrap.{Wrap}
use Rattle.unwrap.specs.Phases.{sign_of, difference_of, phase_of, turns_of}

-- For any two words the sign is -1, 0 or 1 with delta = y - x + sign · 2 ^ 32, as whole numbers,
abbrev pub DeltaIs : Type 0
DeltaIs = (y x : ℤ) → SFits w32 y → SFits w32 x → (difference_of y x).delta ≡ y -ℤ x +ℤ sign_of (difference_of y x).wrap *ℤ pos (2 ^ 32)

-- and the only one for which that is a word.
abbrev pub OnlySign : Type 0
OnlySign = (y x : ℤ) → SFits w32 y → SFits w32 x → (s : Wrap) → SFits w32 (y -ℤ x +ℤ sign_of s *ℤ pos (2 ^ 32)) → s ≡ (difference_of y x).wrap

-- Turn count and phase satisfy y = count · 2 ^ 32 + phase, the count modulo 2 ^ 32: so modulo 2 ^ 64, which settles a y of 64 bits.
abbrev pub MadeUp : Type 0
MadeUp = (y : ℤ) → SFits w64 y → wrap w64 (turns_of y *ℤ pos (2 ^ 32) +ℤ phase_of y) ≡ y
