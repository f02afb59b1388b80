-- 01, 'Phase words': the wrapped difference and its sign, the unwrapper, the clamp.
use Rattle.std.specs.Prelude.{zero, suc, ◌^◌, ℤ, pos, negsuc, ◌+ℤ◌, ◌-ℤ◌}
use Rattle.std.specs.Int.{w32, w64}
use Rattle.words.specs.Words.{wrap, floor_div}
use Rattle.unwrap.specs.declared.wrapping.Wrap.{Wrap}
use Rattle.unwrap.specs.declared.wrapping.Wrap.TheVariants.{Negative, None, Positive}
use Rattle.unwrap.specs.declared.wrapping.Difference.{Difference}
use Rattle.unwrap.specs.declared.unwrapper.Unwrapper.{Unwrapper}
use Rattle.unwrap.specs.declared.clamp_wrap.ClampWrap.{ClampWrap}

-- the sign that each case stands for
abbrev pub sign_of : Wrap → ℤ
sign_of Negative = negsuc 0
sign_of None = pos 0
sign_of Positive = pos 1

-- the case of a number's sign
abbrev pub case_of : ℤ → Wrap
case_of (pos zero) = None
case_of (pos (suc n)) = Positive
case_of (negsuc n) = Negative

-- overflowing_sub: delta is y - x wrapped; the sign is that of what the wrap added.
unfoldable pub difference_of : ℤ → ℤ → Difference
difference_of y x = record { delta = wrap w32 (y -ℤ x); wrap = case_of (wrap w32 (y -ℤ x) -ℤ (y -ℤ x)) }

-- the sign of the sum
abbrev pub joined : Wrap → Wrap → Wrap
joined a b = case_of (sign_of a +ℤ sign_of b)

-- Unwrapper: the phase is the low word, read as signed; dx is x minus it, wrapped; y grows by dx modulo 2 ^ 64.
abbrev pub phase_of : ℤ → ℤ
phase_of y = wrap w32 y

abbrev pub step_of : Unwrapper → ℤ → ℤ
step_of u x = wrap w32 (x -ℤ phase_of u.y)

abbrev pub grown : Unwrapper → ℤ → Unwrapper
grown u x = record { y = wrap w64 (u.y +ℤ step_of u x) }

-- the turn count: what is left of y without its phase, over 2 ^ 32, modulo 2 ^ 32
unfoldable pub turns_of : ℤ → ℤ
turns_of y = wrap w32 (floor_div (y -ℤ phase_of y) (2 ^ 32))

-- the least word and the greatest: - 2 ^ 31 and 2 ^ 31 - 1
abbrev pub least_word : ℤ
least_word = negsuc 2147483647

abbrev pub greatest_word : ℤ
greatest_word = pos 2147483647

-- ClampWrap adds the sign to its own, keeps only the sign of the sum, and gives the least value, the input, or the greatest.
abbrev pub clamped_by : Wrap → ℤ → ℤ
clamped_by Negative x = least_word
clamped_by None x = x
clamped_by Positive x = greatest_word

abbrev pub clamp_after : ClampWrap → ℤ → Wrap
clamp_after s x = joined s.clamp (difference_of x s.x0).wrap

abbrev pub clamp_out : ClampWrap → ℤ → ℤ
clamp_out s x = clamped_by (clamp_after s x) x

abbrev pub clamp_next : ClampWrap → ℤ → ClampWrap
clamp_next s x = record { x0 = x; clamp = clamp_after s x }
