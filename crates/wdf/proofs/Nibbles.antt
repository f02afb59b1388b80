-- The nibbles of an architecture word: four bits are a factor of 16.
use mathlib.Core.Path.{◌≡◌, refl, ◌∙◌}
use mathlib.Core.List.{List}
use Prim.Native.Nat.{ℕ, zero, suc, ◌+◌, ◌*◌, ◌/◌, ◌%◌, ◌^◌, ◌<◌}
use native.Mathlib.Nat.{pow-suc, pow-succ', div-one, zero-div, div-div-eq-div-mul, div-le_self, lt_of_le_of_lt}
use native.Mathlib.Numerals.{one-add}
use native.Mathlib.Omega.{arith}
use lib.IntN.{ℤ, pos}
use lib.ListN.{get_or, drop}
use lib.Pow.{pow-add}
use lib.Seq.{get_or-drop}
use Rattle.adapters.specs.Adapters.{code_of}
use Rattle.sections.specs.Sections.{Section, sections_of}

pub four_bits : (n : ℕ) → 2 ^ (4 * n) ≡ 16 ^ n
four_bits zero = refl
four_bits (suc n) = let e : 4 * suc n ≡ 4 * n + 4 = omega arith in rw (e, pow-add 2 (4 * n) 4, four_bits n, pow-suc 16 n)

-- nibble j of m, the lowest being 0
abbrev pub nibble : ℕ → ℕ → ℕ
nibble m j = m / 16 ^ j % 16

next_nibble : (m j : ℕ) → nibble (m / 16) j ≡ nibble m (suc j)
next_nibble m j = rw (div-div-eq-div-mul m 16 (16 ^ j), pow-succ' 16 j)

-- the section at place j has nibble j, coefficient j and cell j
pub section_at : (n m : ℕ) (cs zs : List ℤ) (j : ℕ) (d : Section) → j < n
    → get_or (sections_of n m cs zs) j d ≡ record { code = code_of (nibble m j); coefficient = get_or cs j (pos 0); cell = get_or zs j (pos 0) }
unfolding sections_of
section_at zero m cs zs j d h = absurd (omega arith)
section_at (suc n) m cs zs zero d h = rw (div-one m)
section_at (suc n) m cs zs (suc j) d h =
    section_at n (m / 16) (drop 1 cs) (drop 1 zs) j d (omega arith)
    ∙ rw (next_nibble m j, get_or-drop 1 cs j (pos 0), get_or-drop 1 zs j (pos 0), one-add j)

-- a word whose nibbles are all zero is zero
all_zero : (k m : ℕ) → m < 16 ^ k → ((j : ℕ) → nibble m j ≡ 0) → m ≡ 0
all_zero zero m l h = omega arith
all_zero (suc k) m l h =
    let p : 16 ^ suc k ≡ 16 ^ k * 16 = pow-suc 16 k in
    let e : m / 16 ≡ 0 = all_zero k (m / 16) (omega arith) (λ j. next_nibble m j ∙ h (suc j)) in
    let f : m % 16 ≡ 0 = rw (div-one m) at (h 0) in
    omega arith

-- 01, refusal 51: a word has no nonzero nibble from place n on exactly where its quotient by 16 ^ n is zero
pub none_beyond : (n m : ℕ) → m / 16 ^ n ≡ 0 → (i : ℕ) → nibble m (n + i) ≡ 0
none_beyond n m e i = rw (pow-add 16 n i, ← div-div-eq-div-mul m (16 ^ n) (16 ^ i), e, zero-div (16 ^ i))

pub beyond_none : (n m : ℕ) → m < 16 ^ 8 → ((i : ℕ) → nibble m (n + i) ≡ 0) → m / 16 ^ n ≡ 0
beyond_none n m l h =
    all_zero 8 (m / 16 ^ n) (lt_of_le_of_lt (div-le_self m (16 ^ n)) l)
    (λ j. rw (div-div-eq-div-mul m (16 ^ n) (16 ^ j), ← pow-add 16 n j) (h j))
