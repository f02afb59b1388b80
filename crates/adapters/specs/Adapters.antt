-- 01, sections: the step per code is `Tpa::adapt` with all sums wrapping.
use Rattle.std.specs.Prelude.{◌≡◌, ℕ, ◌^◌, Bool, true, false, cond, ℤ, ◌+ℤ◌, ◌-ℤ◌, ◌*ℤ◌, ◌==◌}
use Rattle.std.specs.Int.{w32}
use Rattle.words.specs.Words.{wrap, floor_div}
use Rattle.adapters.specs.declared.tpa.Tpa.{Tpa}
use Rattle.adapters.specs.declared.tpa.Tpa.TheVariants.{Z, A, B, B1, X, C, C1, D}
use Rattle.adapters.specs.declared.tpa.Ports.{Ports}

abbrev pub plus : ℤ → ℤ → ℤ
plus x y = wrap w32 (x +ℤ y)

abbrev pub minus : ℤ → ℤ → ℤ
minus x y = wrap w32 (x -ℤ y)

-- 01: the whole product of a coefficient and an i32, divided by 2^32, rounded down
abbrev pub scaled : ℤ → ℤ → ℤ
scaled c a = floor_div (c *ℤ a) (2 ^ 32)

abbrev pub ports : ℤ → ℤ → Ports
ports p q = record { 0 = p; 1 = q }

-- the two outputs of each code, from the inputs x0 and x1 and the coefficient a
unfoldable pub adapted : Tpa → ℤ → ℤ → ℤ → Ports
adapted Z x0 x1 a = ports x0 x1
adapted A x0 x1 a = let c = minus x1 x0 in let y = plus (scaled c a) x1 in ports (plus y c) y
adapted B x0 x1 a = let c = minus x0 x1 in let y = plus (scaled c a) x1 in ports y (plus y c)
adapted B1 x0 x1 a = let c = minus x0 x1 in let y = scaled c a in ports (plus y x1) (plus y x0)
adapted X x0 x1 a = ports x1 x0
adapted C x0 x1 a = let c = minus x1 x0 in let y = minus (scaled c a) x1 in ports y (plus y c)
adapted C1 x0 x1 a = let c = minus x1 x0 in let y = scaled c a in ports (minus y x1) (minus y x0)
adapted D x0 x1 a = let c = minus x0 x1 in let y = minus (scaled c a) x1 in ports (plus y c) y

-- the code of a nibble; 01: an unknown one acts as Z
unfoldable pub code_of : ℕ → Tpa
code_of n =
    cond (n == 0x1) X
    (cond (n == 0xa) A
    (cond (n == 0xb) B
    (cond (n == 0xc) C
    (cond (n == 0xd) D
    (cond (n == 0xe) B1
    (cond (n == 0xf) C1 Z))))))

-- 02, A13: B1 and C1 are withdrawn from new work
unfoldable pub retired : Tpa → Bool
retired Z = false
retired A = false
retired B = false
retired B1 = true
retired X = false
retired C = false
retired C1 = true
retired D = false

-- 02, A13: B1 is B and C1 is C, for all pairs and coefficients; proved in proofs/Adapters.antt
pub record SameAdapters : Type 0 where
  pub b1_is_b : (x0 x1 a : ℤ) → adapted B1 x0 x1 a ≡ adapted B x0 x1 a
  pub c1_is_c : (x0 x1 a : ℤ) → adapted C1 x0 x1 a ≡ adapted C x0 x1 a
