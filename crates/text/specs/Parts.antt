-- 01, 'The replay program': fields parted by one tab, each line ended by a newline.
use Rattle.std.specs.Prelude.{cond, List, [], ◌∷◌, ◌++◌, ℕ, suc, ◌+◌, eqb, length, drop}

-- a byte in front of the first part
abbrev pub onto : ℕ → List (List ℕ) → List (List ℕ)
onto b [] = (b ∷ []) ∷ []
onto b (part ∷ rest) = (b ∷ part) ∷ rest

-- a text's parts between the bytes `sep`, one more than there are of these
unfoldable pub parted : ℕ → List ℕ → List (List ℕ)
parted sep [] = [] ∷ []
parted sep (b ∷ bs) = cond (eqb b sep) ([] ∷ parted sep bs) (onto b (parted sep bs))

-- parts with the byte `sep` between them
unfoldable pub joined_by : ℕ → List (List ℕ) → List ℕ
joined_by sep [] = []
joined_by sep (p ∷ []) = p
joined_by sep (p ∷ q ∷ ps) = p ++ (sep ∷ joined_by sep (q ∷ ps))

-- the first part
unfoldable pub before : ℕ → List ℕ → List ℕ
before sep [] = []
before sep (b ∷ bs) = cond (eqb b sep) [] (b ∷ before sep bs)

-- the parts after the first, from where that ends
abbrev pub behind : ℕ → List ℕ → List (List ℕ)
behind sep [] = []
behind sep (b ∷ bs) = parted sep bs

-- how many bytes `sep` a text has
unfoldable pub count : ℕ → List ℕ → ℕ
count sep [] = 0
count sep (b ∷ bs) = cond (eqb b sep) (suc (count sep bs)) (count sep bs)

-- where the part that starts at `from` ends
abbrev pub end_of : ℕ → List ℕ → ℕ → ℕ
end_of sep l from = from + length (before sep (drop from l))
