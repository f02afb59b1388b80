-- For the private functions alone, which hold cells and coefficients as structs: what they promise, by the answers and the cells of Sections.
use Rattle.std.specs.Prelude.{◌≡◌, List, [], ◌∷◌, ℕ, ℤ}
use Rattle.blocks.specs.Scan.{scan, ends}
use Rattle.sections.specs.declared.pairs.Eight.{Eight}
use Rattle.sections.specs.declared.turns.Turned.{Turned}
use Rattle.sections.specs.Sections.{chain_answer, chain_next}

abbrev pub list_of : Eight → List ℤ
list_of e = e.e0 ∷ e.e1 ∷ e.e2 ∷ e.e3 ∷ e.e4 ∷ e.e5 ∷ e.e6 ∷ e.e7 ∷ []

-- One input x went through n sections with the cells z: r is the answer and the cells after.
abbrev pub Turns : ℕ → ℕ → Eight → Eight → ℤ → Turned → Type 0
Turns n m a z x r = (r.y ≡ chain_answer n m (list_of a) (list_of z) x) × (list_of r.cells ≡ chain_next n m (list_of a) (list_of z) x)

-- The inputs xs went through in turn: w are the cells after, zs what is written.
abbrev pub Ran : ℕ → ℕ → Eight → Eight → List ℤ → Eight → List ℤ → Type 0
Ran n m a z xs w zs =
    (list_of w ≡ ends (chain_answer n m (list_of a)) (chain_next n m (list_of a)) (list_of z) xs)
    × (zs ≡ scan (chain_answer n m (list_of a)) (chain_next n m (list_of a)) (list_of z) xs)
