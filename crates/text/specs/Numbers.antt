-- 01, 'The replay program': decimal, no plus, no leading zero, no `-0`.
use Rattle.std.specs.Prelude.{Bool, cond, ◌&&◌, List, [], ◌∷◌, ◌++◌, ℕ, zero, suc, ◌+◌, ◌-◌, ◌*◌, ◌/◌, ◌%◌, min, leb, ltb, eqb, ℤ, pos, negsuc, Option, Some, None}
use Rattle.text.specs.Letters.{byte}
use Rattle.text.specs.declared.numbers.Number.{Number}
use Rattle.text.specs.declared.numbers.Number.TheVariants.{Plus, Minus}

-- the bytes 0 to 9 are digits
abbrev pub is_digit : ℕ → Bool
is_digit b = leb (byte "0") b && leb b (byte "9")

-- a run of digits after those that gave v; any other byte is wrong
unfoldable pub digits_from : ℕ → List ℕ → Option ℕ
digits_from v [] = Some v
digits_from v (b ∷ bs) = cond (is_digit b) (digits_from (v * 10 + (b - byte "0")) bs) None

-- a size above zero, and the same below
abbrev pub plus : Option ℕ → Option Number
plus (Some v) = Some (Plus v)
plus None = None

abbrev pub turned : Option ℕ → Option Number
turned (Some v) = Some (Minus v)
turned None = None

-- digits that do not begin with 0
unfoldable pub leading_of : List ℕ → Option ℕ
leading_of [] = None
leading_of (b ∷ bs) = cond (eqb b (byte "0")) None (digits_from 0 (b ∷ bs))

-- 0 alone, or digits that do not begin with 0
unfoldable pub plain_of : List ℕ → Option ℕ
plain_of [] = None
plain_of (b ∷ []) = cond (eqb b (byte "0")) (Some 0) (leading_of (b ∷ []))
plain_of (b ∷ d ∷ bs) = leading_of (b ∷ d ∷ bs)

-- a field's number: digits, or a minus and digits that do not begin with 0
unfoldable pub number_of : List ℕ → Option Number
number_of [] = None
number_of (b ∷ bs) = cond (eqb b (byte "-")) (turned (leading_of bs)) (plus (plain_of (b ∷ bs)))

-- sizes from 2 ^ 63 + 1 on are told apart by nobody: they are outside each range
abbrev pub cap : ℕ
cap = 9223372036854775809

abbrev pub capped_size : Option ℕ → Option ℕ
capped_size (Some v) = Some (min v cap)
capped_size None = None

abbrev pub capped : Option Number → Option Number
capped (Some (Plus v)) = Some (Plus (min v cap))
capped (Some (Minus v)) = Some (Minus (min v cap))
capped None = None

-- the decimal digits of a number below 10 ^ k
unfoldable pub spelt : ℕ → ℕ → List ℕ
spelt zero n = []
spelt (suc k) n = cond (ltb n 10) ((byte "0" + n) ∷ []) (spelt k (n / 10) ++ ((byte "0" + n % 10) ∷ []))

-- the decimal digits of a number of 64 bits
abbrev pub decimal_of : ℕ → List ℕ
decimal_of n = spelt 20 n

abbrev pub signed_of : ℤ → List ℕ
signed_of (pos n) = decimal_of n
signed_of (negsuc n) = byte "-" ∷ decimal_of (suc n)
