-- 02, A10: the bits of a coefficient from a pole.
use Rattle.std.specs.Prelude.{ℕ, ◌+◌, ◌*◌, ◌/◌, ◌^◌, Bool, true, false, cond, ◌&&◌, ℤ, pos, negsuc, neg_ℤ, Float, Result, Ok, Err}
use Rattle.std.specs.Float.{fin, binary64}
use Rattle.std.specs.Float.Ieee.{sub, neg, le}
use Rattle.std.specs.Float.Ieee.Positive.{num, den}
use Rattle.adapters.specs.declared.tpa.Tpa.{Tpa}
use Rattle.adapters.specs.declared.tpa.Tpa.TheVariants.{Z, A, B, B1, X, C, C1, D}
use Rattle.adapters.specs.Adapters.{retired}
use Rattle.blocks.specs.declared.refusal.Refusal.{Refusal}

-- the doubles 0, 1, -1 and -0.5
abbrev pub plus_zero : Float
plus_zero = fin false 0 (pos 0)

abbrev pub plus_one : Float
plus_one = fin false 1 (pos 0)

abbrev pub minus_one : Float
minus_one = fin true 1 (pos 0)

abbrev pub minus_half : Float
minus_half = fin true 1 (negsuc 0)

-- in doubles, by code: A takes g - 1, B and B1 take -g, C and C1 take g, D takes -1 - g, Z and X take 0
unfoldable pub coefficient_of : Tpa → Float → Float
coefficient_of Z g = plus_zero
coefficient_of A g = sub binary64 g plus_one
coefficient_of B g = neg g
coefficient_of B1 g = neg g
coefficient_of X g = plus_zero
coefficient_of C g = g
coefficient_of C1 g = g
coefficient_of D g = sub binary64 minus_one g

-- from -0.5 to 0, which a NaN is not
abbrev pub in_range : Float → Bool
in_range a = le minus_half a && le a plus_zero

-- the whole number nearest to n / d, a half up
abbrev pub nearest_up : ℕ → ℕ → ℕ
nearest_up n d = (2 * n + d) / (2 * d)

-- the whole number nearest to that double times 2^32, halves away from zero; a double of at most 0 is the fraction - num a / den a
unfoldable pub nearest_bits : Float → ℤ
nearest_bits a = neg_ℤ (pos (nearest_up (num a * 2 ^ 32) (den a)))

-- 02, A13: quantising for B1 or C1 is 53, before 52; 52 when that double isn't from -0.5 to 0
unfoldable pub quantized : Tpa → Float → Result ℤ Refusal
quantized code g =
    cond (retired code) (Err Refusal.RetiredAdapter)
    (cond (in_range (coefficient_of code g)) (Ok (nearest_bits (coefficient_of code g))) (Err Refusal.Coefficient))
