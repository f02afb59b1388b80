-- Outputs as samples: a division by a power of two for the filter's gain.
use Rattle.std.specs.Prelude.{cond, ℕ, ◌%◌, ◌^◌, ℤ, Option, Some, None}
use Rattle.words.specs.Words.{floor_div}
use Rattle.wav.specs.Samples.{in_i16}

-- the quotient rounded down, where it is within i16
abbrev pub fitted : ℤ → Option ℤ
fitted q = cond (in_i16 q) (Some q) None

abbrev pub divided_of : ℤ → ℕ → Option ℤ
divided_of v k = fitted (floor_div v (2 ^ (k % 64)))
