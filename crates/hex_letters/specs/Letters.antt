-- A number's hex digits, 0 to 9 and a to f, as letters.
use Rattle.std.specs.Prelude.{cond, List, [], ◌∷◌, ◌++◌, ℕ, zero, suc, ◌+◌, ◌-◌, ◌/◌, ◌%◌, ltb}
use Rattle.text.specs.Letters.{byte}

-- a digit's letter
unfoldable pub letter_of : ℕ → ℕ
letter_of d = cond (ltb d 10) (byte "0" + d) (byte "a" + (d - 10))

-- the last k digits of a number, the first first
unfoldable pub letters_of : ℕ → ℕ → List ℕ
letters_of zero n = []
letters_of (suc k) n = letters_of k (n / 16) ++ (letter_of (n % 16) ∷ [])
