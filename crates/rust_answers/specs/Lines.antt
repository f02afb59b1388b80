-- Words in a stored text, as oracle/README.md lays them out.
use Rattle.std.specs.Prelude.{cond, List, [], ◌∷◌, ◌++◌, ℕ, zero, suc, ◌+◌, ◌-◌, ◌*◌, ◌/◌, ltb, eqb, length, get_or}

-- the value of a hex digit, 0 to 9 or a to f; of any other byte 0
abbrev pub nibble_of : ℕ → ℕ
nibble_of b = cond (ltb b 48) 0 (cond (ltb b 58) (b - 48) (cond (ltb b 97) 0 (cond (ltb b 103) (b - 87) 0)))

abbrev pub byte_at : List ℕ → ℕ → ℕ
byte_at text at = nibble_of (get_or text at 0) * 16 + nibble_of (get_or text (at + 1) 0)

abbrev pub half_at : List ℕ → ℕ → ℕ
half_at text at = byte_at text at * 256 + byte_at text (at + 2)

-- word number i stands at byte 9 i, with a byte behind it
unfoldable pub word_at : List ℕ → ℕ → ℕ
word_at text i = cond (ltb i (length text / 9)) (half_at text (i * 9) * 65536 + half_at text (i * 9 + 4)) 0

-- n words from word number first on
unfoldable pub words_at : List ℕ → ℕ → ℕ → List ℕ
words_at text first zero = []
words_at text first (suc n) = words_at text first n ++ (word_at text (first + n) ∷ [])

-- 0 where two lists have the same words, else 1
unfoldable pub unlike_all : List ℕ → List ℕ → ℕ
unlike_all [] [] = 0
unlike_all [] (b ∷ ys) = 1
unlike_all (a ∷ xs) [] = 1
unlike_all (a ∷ xs) (b ∷ ys) = cond (eqb a b) (unlike_all xs ys) 1
