-- 01, 'Sections and loops', wide and dither: i64 sums wrap, then the code's shifts, here by what they give. A coefficient times a word is
-- the whole product.
use Rattle.std.specs.Prelude.{cond, ℕ, ◌-◌, ◌^◌, ℤ, pos, ◌+ℤ◌, ◌*ℤ◌}
use Rattle.std.specs.Int.Signed.{lt_z}
use Rattle.std.specs.Int.{w32, w64}
use Rattle.words.specs.Words.{mod_ℤ, word, wrap, floor_div}
use Rattle.biquad_fixed.specs.declared.coefficients.Biquad.{Biquad}
use Rattle.biquad_fixed.specs.declared.coefficients.BiquadClamp.{BiquadClamp}
use Rattle.biquad_fixed.specs.declared.wide.DirectForm1Wide.{DirectForm1Wide}
use Rattle.biquad_fixed.specs.declared.dither.DirectForm1Dither.{DirectForm1Dither}

-- the inputs' part of the sum
abbrev pub forward : Biquad → ℤ → ℤ → ℤ → ℤ
forward c x0 x1 x2 = c.b0 *ℤ x0 +ℤ c.b1 *ℤ x1 +ℤ c.b2 *ℤ x2

-- a sum with F fraction bits as one with 32, modulo 2 ^ 64
abbrev pub aligned : Biquad → ℤ → ℤ
aligned c sum = wrap w64 (sum *ℤ pos (2 ^ (32 - c.f)))

-- Wide: an output is kept with 32 bits below its word, so its product with a coefficient is divided by 2 ^ 32, rounded down.
unfoldable pub wide_sum : Biquad → DirectForm1Wide → ℤ → ℤ
wide_sum c s x =
    wrap w64
    (forward c x s.x1 s.x2 +ℤ floor_div (s.y1 *ℤ c.a1) (2 ^ 32) +ℤ floor_div (s.y2 *ℤ c.a2) (2 ^ 32))

-- the output is the high word; the state keeps both
abbrev pub wide_out : Biquad → DirectForm1Wide → ℤ → ℤ
wide_out c s x = floor_div (aligned c (wide_sum c s x)) (2 ^ 32)

abbrev pub wide_next : Biquad → DirectForm1Wide → ℤ → DirectForm1Wide
wide_next c s x = record { x1 = x; x2 = s.x1; y1 = aligned c (wide_sum c s x); y2 = s.y1 }

-- Dither: the error joins the sum. The output is the sum divided by 2 ^ F, rounded down, modulo 2 ^ 32; what is left is the next error.
unfoldable pub dither_sum : Biquad → DirectForm1Dither → ℤ → ℤ
dither_sum c s x = wrap w64 (pos s.e +ℤ (forward c x s.x1 s.x2 +ℤ (c.a1 *ℤ s.y1 +ℤ c.a2 *ℤ s.y2)))

abbrev pub dither_out : Biquad → DirectForm1Dither → ℤ → ℤ
dither_out c s x = wrap w32 (floor_div (dither_sum c s x) (2 ^ c.f))

abbrev pub dither_error : Biquad → DirectForm1Dither → ℤ → ℕ
dither_error c s x = mod_ℤ (dither_sum c s x) (2 ^ c.f)

abbrev pub dither_next : Biquad → DirectForm1Dither → ℤ → DirectForm1Dither
dither_next c s x = record { x1 = x; x2 = s.x1; y1 = dither_out c s x; y2 = s.y1; e = dither_error c s x }

-- Offset addition wraps in i32; the limits hold below the lower, then above the upper.
abbrev pub held_to : ℤ → ℤ → ℤ → ℤ
held_to min max y = cond (lt_z y min) min (cond (lt_z max y) max y)

abbrev pub limited : BiquadClamp → ℤ → ℤ
limited c y = held_to c.min c.max (wrap w32 (y +ℤ c.u))

-- Wide, clamped: the limited output goes over the high word, and the low word stays.
abbrev pub overwritten : ℤ → ℤ → ℤ
overwritten acc y = y *ℤ pos (2 ^ 32) +ℤ pos (word w32 acc)

abbrev pub wide_held : BiquadClamp → DirectForm1Wide → ℤ → ℤ
wide_held c s x = limited c (wide_out c.coeff s x)

abbrev pub wide_onward : BiquadClamp → DirectForm1Wide → ℤ → DirectForm1Wide
wide_onward c s x = record {
  x1 = x;
  x2 = s.x1;
  y1 = overwritten (aligned c.coeff (wide_sum c.coeff s x)) (wide_held c s x);
  y2 = s.y1;
}

-- Dither, clamped: the limited output goes into the state, and the error stays.
abbrev pub dither_held : BiquadClamp → DirectForm1Dither → ℤ → ℤ
dither_held c s x = limited c (dither_out c.coeff s x)

abbrev pub dither_onward : BiquadClamp → DirectForm1Dither → ℤ → DirectForm1Dither
dither_onward c s x = record {
  x1 = x;
  x2 = s.x1;
  y1 = dither_held c s x;
  y2 = s.y1;
  e = dither_error c.coeff s x;
}
