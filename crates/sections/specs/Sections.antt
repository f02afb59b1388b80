-- 01, sections: what runs through them.
use Rattle.std.specs.Prelude.{List, [], ◌∷◌, ◌++◌, ℕ, zero, suc, ◌/◌, ◌%◌, get_or, drop, ℤ, pos}
use Rattle.adapters.specs.declared.tpa.Tpa.{Tpa}
use Rattle.adapters.specs.Adapters.{adapted, code_of}

-- a section: its code, its coefficient and its cell
pub record Section : Type 0 where
  pub code : Tpa
  pub coefficient : ℤ
  pub cell : ℤ

-- the section of a nibble, with the first coefficient and the first cell
abbrev pub section_of : ℕ → List ℤ → List ℤ → Section
section_of nibble cs zs = record { code = code_of nibble; coefficient = get_or cs 0 (pos 0); cell = get_or zs 0 (pos 0) }

-- the first n sections. 01: nibbles are read lowest first
unfoldable pub sections_of : ℕ → ℕ → List ℤ → List ℤ → List Section
sections_of zero m cs zs = []
sections_of (suc n) m cs zs = section_of (m % 16) cs zs ∷ sections_of n (m / 16) (drop 1 cs) (drop 1 zs)

-- what goes back to the place before the sections, and their cells after
pub record Passed : Type 0 where
  pub back : ℤ
  pub cells : List ℤ

-- 01: a section's first output goes to the previous section's cell (the first section's is the answer), its second goes on;
-- the last goes into the last cell. No sections: the input is the answer.
unfoldable pub passed : List Section → ℤ → Passed
passed [] x = record { back = x; cells = [] }
passed (s ∷ rest) x =
    let p = adapted s.code x s.cell s.coefficient in
    let r = passed rest p.1 in
    record { back = p.0; cells = r.back ∷ r.cells }

-- n sections with the nibbles m and the coefficients cs, by their cells zs: the answer to x, and the cells after it. Those beyond the sections stay.
abbrev pub chain_answer : ℕ → ℕ → List ℤ → List ℤ → ℤ → ℤ
chain_answer n m cs zs x = (passed (sections_of n m cs zs) x).back

abbrev pub chain_next : ℕ → ℕ → List ℤ → List ℤ → ℤ → List ℤ
chain_next n m cs zs x = (passed (sections_of n m cs zs) x).cells ++ drop n zs
