-- The machine's sums, each wrapped by itself, are the sum wrapped once; the low word's product fits.
use mathlib.Core.Path.{◌≡◌, refl, subst}
use lib.IntN.{ℤ, pos, ◌+ℤ◌, ◌*ℤ◌, *ℤ_comm}
use mir.Syntax.{w32, w64}
use mir.Val.{SFits}
use Rattle.words.specs.Words.{word, wrap}
use Rattle.words.proofs.Reading.{word_fits}
use Rattle.words.proofs.Sums.{equal, ◌and◌, wrapped, same_add, wrap-same}
use Rattle.words.proofs.Sizes.{low_product_fits}
use Rattle.pll.specs.declared.PLL.{PLL}
use Rattle.pll.specs.Loops.{lag_product, lead_lag}

pub low_fits : (a f : ℤ) → SFits w32 a → SFits w64 (a *ℤ pos (word w32 f))
low_fits a f h = subst (SFits w64) (*ℤ_comm (pos (word w32 f)) a) (low_product_fits (word w32 f) a (word_fits w32 f).fits h)

-- lead lag, from the machine's three sums
pub lead : (p : PLL) (f0 y0 y1 : ℤ)
    → wrap w64 (f0 +ℤ wrap w64 (wrap w64 (p.b0 *ℤ y0 +ℤ p.b1 *ℤ y1) +ℤ wrap w64 (lag_product p.a1 f0))) ≡ lead_lag p f0 y0 y1
unfolding lead_lag
lead p f0 y0 y1 =
    let z = p.b0 *ℤ y0 +ℤ p.b1 *ℤ y1 in
    let q = lag_product p.a1 f0 in
    wrap-same (same_add {a = f0} (equal refl) (wrapped w64 (wrap w64 z +ℤ wrap w64 q) and same_add (wrapped w64 z) (wrapped w64 q)))
