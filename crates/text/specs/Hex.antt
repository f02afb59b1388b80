-- Sixteen hex digits, 0 to 9 and a to f, as a word of 64 bits.
use Rattle.std.specs.Prelude.{cond, List, [], ◌∷◌, ℕ, ◌+◌, ◌-◌, ◌*◌, leb, ltb, eqb, length, Option, Some, None}
use Rattle.text.specs.Letters.{byte}

-- the value of a digit; of any other byte 16
abbrev pub hex_digit : ℕ → ℕ
hex_digit b =
    cond (ltb b (byte "0")) 16
    (cond (leb b (byte "9")) (b - byte "0")
    (cond (ltb b (byte "a")) 16
    (cond (leb b (byte "f")) (b - byte "a" + 10) 16)))

-- the same, where there is one
abbrev pub digit_of : ℕ → Option ℕ
digit_of b = cond (ltb 15 (hex_digit b)) None (Some (hex_digit b))

-- digits after those that gave v
unfoldable pub hex_from : ℕ → List ℕ → Option ℕ
hex_from v [] = Some v
hex_from v (b ∷ bs) = cond (ltb 15 (hex_digit b)) None (hex_from (v * 16 + hex_digit b) bs)

-- a field's word: neither more digits nor fewer
abbrev pub pattern_of : List ℕ → Option ℕ
pattern_of field = cond (eqb (length field) 16) (hex_from 0 field) None
