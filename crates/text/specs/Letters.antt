-- Bytes by their letters: `bytes "cic"` is 99 ∷ 105 ∷ 99 ∷ [].
use Rattle.std.specs.Prelude.{List, ℕ}
use Prim.Native.Char.{Char, code}
use Prim.Native.String.{String, [], ◌∷◌}

-- a letter of ASCII, as its byte
abbrev pub byte : Char → ℕ
byte c = code c

abbrev pub bytes : String → List ℕ
bytes [] = List.[]
bytes (c ∷ s) = List.◌∷◌ (byte c) (bytes s)

-- the byte between fields, and the one that ends a line
abbrev pub tab : ℕ
tab = byte "\t"

abbrev pub newline : ℕ
newline = byte "\n"
