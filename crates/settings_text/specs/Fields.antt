-- 02, A7: names, and architecture nibbles as lower-case hex digits in one field.
use Rattle.std.specs.Prelude.{Bool, true, cond, ◌&&◌, List, [], ◌∷◌, ℕ, zero, suc, ◌+◌, ◌-◌, ◌*◌, ◌/◌, ◌%◌, leb, ltb, length}
use Rattle.std.proofs.Math.Option.{Option, none, some}
use Rattle.text.specs.Hex.{hex_digit}
use Rattle.text.specs.Letters.{byte, bytes}
use Rattle.text.specs.Ranges.{both}
use Rattle.text.specs.Same.{same}

-- names are 1 to 16 lower-case letters
abbrev pub is_letter : ℕ → Bool
is_letter b = leb (byte "a") b && leb b (byte "z")

abbrev pub letters : List ℕ → Bool
letters [] = true
letters (b ∷ bs) = is_letter b && letters bs

unfoldable pub is_name : List ℕ → Bool
is_name name = (leb 1 (length name) && leb (length name) 16) && letters name

-- a nibble's digit
unfoldable pub hex_of : ℕ → ℕ
hex_of d = cond (ltb d 10) (byte "0" + d) (byte "a" + (d - 10))

unfoldable pub hex_in : ℕ → Option ℕ
hex_in b = cond (ltb 15 (hex_digit b)) none (some (hex_digit b))

-- k nibbles, the first section leftmost and lowest
unfoldable pub hexes_of : ℕ → ℕ → List ℕ
hexes_of zero m = []
hexes_of (suc k) m = hex_of (m % 16) ∷ hexes_of k (m / 16)

unfoldable pub hexes_in : ℕ → List ℕ → Option ℕ
hexes_in zero [] = some 0
hexes_in zero (b ∷ bs) = none
hexes_in (suc k) [] = none
hexes_in (suc k) (b ∷ bs) = both (λ d m. d + 16 * m) (hex_in b) (hexes_in k bs)

-- `-` for no sections
unfoldable pub nibbles_of : ℕ → ℕ → List ℕ
nibbles_of zero m = bytes "-"
nibbles_of (suc k) m = hexes_of (suc k) m

unfoldable pub nibbles_in : ℕ → List ℕ → Option ℕ
nibbles_in zero field = cond (same field (bytes "-")) (some 0) none
nibbles_in (suc k) field = hexes_in (suc k) field
