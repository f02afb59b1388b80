-- NaNs among the patterns of bits and among the doubles.
use mathlib.Core.Path.{◌≡◌, refl, sym, subst, ◌∙◌}
use mathlib.Core.Bool.{true, false, not, true≢false, false≢true}
use Prim.Native.Nat.{ℕ, ◌%◌, ◌≤◌, ◌<◌}
use borrow.Author.Tests.{lt-ltb, le-ltb}
use lib.Dec.{T}
use lib.Ieee.{Float, nan, inf, fin, binary64, of_bits, ne, is_nan, nan_bits}
use lib.Ieee.Bits.{nan_bits_is, nan_bits_above}
use lib.Ieee.Compare.{differs_from_itself}

only : (x : Float) → is_nan x ≡ true → x ≡ nan
unfolding is_nan
only nan e = refl
only (inf s) e = absurd (false≢true e)
only (fin s m e) p = absurd (false≢true p)

pub pattern_nan : (n : ℕ) → 0x7ff0_0000_0000_0000 < n % 0x8000_0000_0000_0000 → of_bits binary64 n ≡ nan
pattern_nan n h = only (of_bits binary64 n) (sym (nan_bits_is binary64 n) ∙ nan_bits_above binary64 n ∙ lt-ltb _ _ h)

pub pattern_number : (n : ℕ) → n % 0x8000_0000_0000_0000 ≤ 0x7ff0_0000_0000_0000 → T (not (nan_bits binary64 n))
pattern_number n h = rw (nan_bits_above binary64 n ∙ le-ltb _ _ h) tt

pub differs_nan : (x : Float) → ne x x ≡ true → x ≡ nan
unfolding ne
differs_nan x h = differs_from_itself x (subst T (sym h) tt)

pub same_number : (x : Float) → ne x x ≡ false → T (not (is_nan x))
unfolding ne is_nan
same_number nan h = absurd (true≢false h)
same_number (inf s) h = tt
same_number (fin s m e) h = tt
