-- 02, A10, what the bits are, said without a quotient: twice their distance is at most 1, halves go away from zero, and no other whole
-- number has both.
use Rattle.std.specs.Prelude.{◌≡◌, ℕ, ◌*◌, ◌^◌, ◌≤◌, true, false, T, ℤ, pos, ◌-ℤ◌, ◌*ℤ◌, neg_ℤ, unsigned_abs, Float, Ok}
use Rattle.std.specs.Float.{nan, inf, fin}
use Rattle.std.specs.Float.Ieee.{up}
use Rattle.std.specs.Float.Ieee.Positive.{den}
use Rattle.adapters.specs.declared.tpa.Tpa.{Tpa}
use Rattle.adapters.specs.Adapters.{retired}
use Rattle.adapters.specs.Quantize.{coefficient_of, in_range, quantized}

-- the double a is the fraction numerator a / den a of two whole numbers
abbrev pub numerator : Float → ℤ
numerator nan = pos 0
numerator (inf s) = pos 0
numerator (fin true m e) = neg_ℤ (pos (m * up e))
numerator (fin false m e) = pos (m * up e)

-- the distance of the whole number b from a * 2 ^ 32, times den a
abbrev pub distance : Float → ℤ → ℕ
distance a b = unsigned_abs (b *ℤ pos (den a) -ℤ numerator a *ℤ pos (2 ^ 32))

-- twice the distance is at most 1, and where it is 1, b is the one further from zero
pub record Nearest (a : Float) (b : ℤ) : Type 0 where
  pub near : 2 * distance a b ≤ den a
  pub away : 2 * distance a b ≡ den a → unsigned_abs (numerator a) * 2 ^ 32 ≤ unsigned_abs b * den a

-- the bits that quantize answers are the nearest, and no other whole number is
pub record Rounds (code : Tpa) (g : Float) : Type 0 where
  pub bits : ℤ
  pub answer : quantized code g ≡ Ok bits
  pub nearest : Nearest (coefficient_of code g) bits
  pub only : (other : ℤ) → Nearest (coefficient_of code g) other → other ≡ bits

-- proved in proofs/Nearest.antt
abbrev pub RoundsInRange : Type 0
RoundsInRange = (code : Tpa) (g : Float) → retired code ≡ false → T (in_range (coefficient_of code g)) → Rounds code g
