-- Clamps and loops as their caller keeps and lends them: a wrap is a number, 0 for none, 1 for positive, any other for negative.
use Rattle.std.specs.Prelude.{cond, ℕ, eqb, ℤ}
use Rattle.unwrap.specs.declared.clamp_wrap.ClampWrap.{ClampWrap}
use Rattle.unwrap.specs.declared.wrapping.Wrap.{Wrap}
use Rattle.unwrap.specs.declared.wrapping.Wrap.TheVariants.{Negative, None, Positive}
use Rattle.pll.specs.declared.PLL.{PLL}
use Rattle.pll.specs.declared.PLLState.{PLLState}
use Rattle.rpll.specs.declared.RPLL.{RPLL}
use Rattle.rpll.specs.declared.RPLLConfig.{RPLLConfig}

unfoldable pub wrap_at : ℕ → Wrap
wrap_at n = cond (eqb n 0) None (cond (eqb n 1) Positive Negative)

unfoldable pub wrap_number : Wrap → ℕ
wrap_number None = 0
wrap_number Positive = 1
wrap_number Negative = 2

abbrev pub clamp_at : ℤ → ℕ → ClampWrap
clamp_at x0 clamp = record { x0 = x0; clamp = wrap_at clamp }

-- The fields of a loop's state, and the state that stands in them.
pub record Fields : Type 0 where
  pub x0 : ℤ
  pub clamp : ℕ
  pub z0 : ℤ
  pub y0 : ℤ
  pub f0 : ℤ
  pub f : ℤ
  pub y : ℤ

abbrev pub fields_at : ℤ → ℕ → ℤ → ℤ → ℤ → ℤ → ℤ → Fields
fields_at x0 clamp z0 y0 f0 f y = record { x0 = x0; clamp = clamp; z0 = z0; y0 = y0; f0 = f0; f = f; y = y }

abbrev pub pll_in : Fields → PLLState
pll_in s = record { clamp = clamp_at s.x0 s.clamp; z0 = s.z0; y0 = s.y0; f0 = s.f0; f = s.f; y = s.y }

abbrev pub fields_of : PLLState → Fields
fields_of s = fields_at s.clamp.x0 (wrap_number s.clamp.clamp) s.z0 s.y0 s.f0 s.f s.y

abbrev pub loop_at : ℤ → ℤ → ℤ → PLL
loop_at b0 b1 a1 = record { b0 = b0; b1 = b1; a1 = a1 }

abbrev pub config_at : ℕ → ℕ → ℕ → RPLLConfig
config_at dt2 frequency phase = record { dt2 = dt2; shift_frequency = frequency; shift_phase = phase }

abbrev pub rpll_at : ℤ → ℕ → ℕ → ℤ → RPLL
rpll_at x ff f y = record { x = x; ff = ff; f = f; y = y }
