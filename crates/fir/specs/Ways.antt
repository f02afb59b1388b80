-- 02, A6: the table's rule.
use Rattle.std.specs.Prelude.{◌≡◌, cond, List, [], ◌∷◌, ℕ, zero, suc, ◌+◌, ◌-◌, ◌*◌, ◌<◌, leb, eqb, get_or}

-- The sum of g at 0 .. n - 1.
unfoldable pub up_to : ℕ → (ℕ → ℕ) → ℕ
up_to zero g = 0
up_to (suc n) g = g 0 + up_to n (λ i. g (suc i))

-- h at n - i, and 0 where i is more than n.
unfoldable pub rest : ℕ → (ℕ → ℕ) → ℕ → ℕ
rest i h n = cond (leb i n) (h (n - i)) 0

-- The number of ways to write n as a sum of k numbers from 0 to L - 1: the first is i, and the others add up to n - i.
unfoldable pub ways : ℕ → ℕ → ℕ → ℕ
ways L zero n = cond (eqb n 0) 1 0
ways L (suc k) n = up_to L (λ i. rest i (ways L k) n)

-- The rule of a table of 190 entries, in rows of ten: entry n is the number of ways to write n as a sum of three numbers from 0 to 63.
abbrev pub HoldsWays : List (List ℕ) → Type 0
HoldsWays table = (row place : ℕ) → row < 19 → place < 10 → get_or (get_or table row []) place 0 ≡ ways 64 3 (row * 10 + place)

-- The sum of all entries.
unfoldable pub sum : List ℕ → ℕ
sum [] = 0
sum (n ∷ l) = n + sum l

unfoldable pub total : List (List ℕ) → ℕ
total [] = 0
total (row ∷ table) = sum row + total table

-- 02, A6: the table holds the ways, and its entries total 262,144.
abbrev pub Table : List (List ℕ) → Type 0
Table table = HoldsWays table × (total table ≡ 262144)
