-- Words: whole numbers modulo 2 ^ w, and the two ways to read the bits. All sums of document 01 are sums of these.
use Rattle.std.specs.Prelude.{ℕ, suc, ◌-◌, ◌%◌, ◌^◌, ℤ, pos, negsuc}
use Rattle.std.specs.Int.Signed.{shr_z}
use Rattle.std.specs.Int.{Width}
use mir.Val.{to_z, bits}

-- the remainder of z by m, from 0 to m - 1
abbrev pub mod_ℤ : ℤ → ℕ → ℕ
mod_ℤ (pos n) m = n % m
mod_ℤ (negsuc n) m = m - suc (n % m)

-- z modulo 2 ^ w, read as unsigned
unfoldable pub word : Width → ℤ → ℕ
word w z = mod_ℤ z (2 ^ bits w)

-- z modulo 2 ^ w, read as signed: from - 2 ^ (w - 1) to 2 ^ (w - 1) - 1
unfoldable pub wrap : Width → ℤ → ℤ
wrap w z = to_z w (word w z)

-- z divided by m, rounded down
abbrev pub floor_div : ℤ → ℕ → ℤ
floor_div z m = shr_z z m
