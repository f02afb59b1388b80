-- What private functions promise one another: no caller cites it.
use Rattle.std.specs.Prelude.{◌≡◌, List, [], ◌∷◌, ◌++◌, map, ℕ, ℤ}
use Rattle.std.specs.Int.{w64}
use Rattle.words.specs.Words.{word}
use Rattle.text.specs.Letters.{byte, newline}
use Rattle.text.specs.Writing.{Wrote}
use Rattle.hex_letters.specs.Letters.{letters_of}
use Rattle.desk.specs.Saved.{check_from}
use Rattle.state_lines.specs.States.{spelled}
use Rattle.state_lines.specs.declared.WordsPut.{WordsPut}

-- cells were put as words, and the check value went over them
pub record CellsPut (o : List ℕ) (at : ℕ) (cells : List ℤ) (check : ℕ) (r : WordsPut) (o' : List ℕ) : Type 0 where
  pub wrote : Wrote o at (spelled (map (word w64) cells)) r.next o'
  pub checked : r.check ≡ check_from check (map (word w64) cells)

-- a line's bytes in the order in which they are put
abbrev pub check_of : List ℤ → List ℤ → List ℤ → ℕ
check_of head integrators combs =
    check_from (check_from (check_from 1 (map (word w64) head)) (map (word w64) integrators)) (map (word w64) combs)

unfoldable pub in_turn : List ℤ → List ℤ → List ℤ → List ℕ
in_turn head integrators combs =
    (((((byte "c" ∷ []) ++ spelled (map (word w64) head)) ++ spelled (map (word w64) integrators)) ++ spelled (map (word w64) combs))
    ++ letters_of 16 (check_of head integrators combs)) ++ (newline ∷ [])
