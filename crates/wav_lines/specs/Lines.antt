-- 01, 'The replay program': samples as its lines.
use Rattle.std.specs.Prelude.{cond, List, [], ◌∷◌, ◌++◌, ℕ, ◌*◌, leb, ℤ, length}
use Rattle.text.specs.Letters.{bytes, newline}
use Rattle.text.specs.Numbers.{signed_of}

-- `x`, a tab, the value, a newline
unfoldable pub input_line : ℤ → List ℕ
input_line x = bytes "x\t" ++ (signed_of x ++ (newline ∷ []))

abbrev pub input_lines : List ℤ → List ℕ
input_lines [] = []
input_lines (x ∷ xs) = input_line x ++ input_lines xs

-- 20, a slice shorter than the longest lines
unfoldable pub lines_number : List ℤ → List ℕ → ℕ
lines_number xs out = cond (leb (14 * length xs) (length out)) 0 20
