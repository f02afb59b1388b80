-- 01, 'Sections and loops': for dither, wrapped sum modulo 2 ^ (32 + F) equals y · 2 ^ F + e modulo 2 ^ (32 + F), with e below 2 ^ F
-- after each step, before offset and clamp.
use Rattle.std.specs.Prelude.{◌≡◌, List, ◌+◌, ◌^◌, ◌<◌, ℤ, pos, ◌+ℤ◌, ◌*ℤ◌}
use Rattle.words.specs.Words.{mod_ℤ}
use Rattle.blocks.specs.Scan.{ends}
use Rattle.biquad_fixed.specs.declared.coefficients.Biquad.{Biquad}
use Rattle.biquad_fixed.specs.declared.coefficients.BiquadClamp.{BiquadClamp}
use Rattle.biquad_fixed.specs.declared.dither.DirectForm1Dither.{DirectForm1Dither}
use Rattle.biquad_fixed.specs.Forms.{dither_sum, dither_out, dither_next, dither_held, dither_onward}

-- A step of c on s and x whose output is y before offset and clamp, and t the state after.
pub record Kept (c : Biquad) (s : DirectForm1Dither) (x y : ℤ) (t : DirectForm1Dither) : Type 0 where
  pub sum : mod_ℤ (dither_sum c s x) (2 ^ (32 + c.f)) ≡ mod_ℤ (y *ℤ pos (2 ^ c.f) +ℤ pos t.e) (2 ^ (32 + c.f))
  pub below : t.e < 2 ^ c.f

-- Every step, plain and clamped.
abbrev pub DitherKept : Type 0
DitherKept = (c : Biquad) (s : DirectForm1Dither) (x : ℤ) → Kept c s x (dither_out c s x) (dither_next c s x)

abbrev pub ClampKept : Type 0
ClampKept = (c : BiquadClamp) (s : DirectForm1Dither) (x : ℤ) → Kept c.coeff s x (dither_out c.coeff s x) (dither_onward c s x)

-- Every block, plain and clamped, from an error below 2 ^ F.
abbrev pub BlockBelow : Type 0
BlockBelow = (c : Biquad) (s : DirectForm1Dither) (xs : List ℤ) → s.e < 2 ^ c.f → (ends (dither_out c) (dither_next c) s xs).e < 2 ^ c.f

abbrev pub ClampBlockBelow : Type 0
ClampBlockBelow = (c : BiquadClamp) (s : DirectForm1Dither) (xs : List ℤ) → s.e < 2 ^ c.coeff.f
    → (ends (dither_held c) (dither_onward c) s xs).e < 2 ^ c.coeff.f
