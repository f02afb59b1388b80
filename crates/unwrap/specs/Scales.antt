-- 02, A11: saturating_scale is (hi · 2 ^ 32 + lo) divided by 2 ^ shift, rounded down, then clamped to the i32 range, for shifts 1 .. 32.
use Rattle.std.specs.Prelude.{cond, ◌||◌, ℕ, ◌^◌, ltb, eqb, ℤ, pos, ◌+ℤ◌, ◌*ℤ◌, Result, Ok, Err}
use Rattle.std.specs.Int.Signed.{lt_z}
use Rattle.words.specs.Words.{floor_div}
use Rattle.unwrap.specs.Phases.{least_word, greatest_word}
use Rattle.blocks.specs.declared.refusal.Refusal.{Refusal}

abbrev pub wide_value : ℤ → ℤ → ℤ
wide_value lo hi = hi *ℤ pos (2 ^ 32) +ℤ lo

-- clamped to the i32 range
unfoldable pub clamped : ℤ → ℤ
clamped z = cond (lt_z z least_word) least_word (cond (lt_z greatest_word z) greatest_word z)

-- divided by 2 ^ shift, rounded down, then clamped
abbrev pub scaled_to : ℕ → ℤ → ℤ
scaled_to shift v = clamped (floor_div v (2 ^ shift))

-- for all shifts 1 .. 32; ScaleShift, which is 65: any other shift
unfoldable pub scaled_of : ℤ → ℤ → ℕ → Result ℤ Refusal
scaled_of lo hi shift = cond (eqb shift 0 || ltb 32 shift) (Err Refusal.ScaleShift) (Ok (scaled_to shift (wide_value lo hi)))
