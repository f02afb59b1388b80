-- 02, A9: all numbers are little-endian.
use Rattle.std.specs.Prelude.{List, [], ◌∷◌, ℕ, zero, suc, ◌+◌, ◌*◌, ◌/◌, ◌%◌, ◌<◌}

-- the k bytes of n, lowest first
abbrev pub little : ℕ → ℕ → List ℕ
little zero n = []
little (suc k) n = n % 256 ∷ little k (n / 256)

-- the number in some bytes, lowest first
abbrev pub little_in : List ℕ → ℕ
little_in [] = 0
little_in (b ∷ bs) = b + 256 * little_in bs

-- each element is a byte, as in every slice of bytes that is lent
pub data Bytes : List ℕ → Type 0 where
  none : Bytes []
  more : {b : ℕ} {bs : List ℕ} → b < 256 → Bytes bs → Bytes (b ∷ bs)
