-- The table's rule at all of its entries: each row of ways is the windows' sums of the row before, and one test computes the third.
use mathlib.Core.Path.{◌≡◌, refl, sym, ap, ap₂, ◌∙◌, fun_ext}
use mathlib.Core.List.{List, [], ◌∷◌}
use Prim.Native.Nat.{ℕ, zero, suc, ◌+◌, ◌*◌, ◌<◌}
use native.Mathlib.Nat.{zero-add}
use native.Mathlib.Omega.{arith}
use lib.ListN.{take, drop, get_or}
use lib.Seq.{get_or-take, get_or-drop}
use Rattle.fir.specs.Ways.{up_to, ways, rest, HoldsWays, sum}
use Rattle.fir.proofs.Weighing.{rest-none, rest_early, rest_on}

-- the sums of the last L elements, along a list; those before it are given newest first
unfoldable pub windows : ℕ → List ℕ → List ℕ → List ℕ
windows L seen [] = []
windows L seen (x ∷ xs) = sum (take L (x ∷ seen)) ∷ windows L (x ∷ seen) xs

-- N values of h from number n on, and those before number n, newest first
unfoldable pub row : ℕ → ℕ → (ℕ → ℕ) → List ℕ
row n zero h = []
row n (suc N) h = h n ∷ row (suc n) N h

newest : (ℕ → ℕ) → ℕ → List ℕ
newest h zero = []
newest h (suc n) = h n ∷ newest h n

-- ways with one number more
more : ℕ → (ℕ → ℕ) → ℕ → ℕ
more L h n = up_to L (λ i. rest i h n)

zeros : (L : ℕ) → up_to L (λ i. 0) ≡ 0
unfolding up_to
zeros zero = refl
zeros (suc L) = zero-add (up_to L (λ i. 0)) ∙ zeros L

none : (L : ℕ) (h : ℕ → ℕ) → up_to L (λ i. rest (suc i) h 0) ≡ 0
none L h = ap (up_to L) (fun_ext (λ i. rest_early i h)) ∙ zeros L

none_seen : (L : ℕ) → sum (take L []) ≡ 0
unfolding sum
none_seen zero = refl
none_seen (suc L) = refl

window_is : (L : ℕ) (h : ℕ → ℕ) (n : ℕ) → sum (take L (newest h (suc n))) ≡ more L h n
unfolding sum newest more up_to
window_is zero h n = refl
window_is (suc L) h zero = ap₂ ◌+◌ (sym (rest-none h 0)) (none_seen L ∙ sym (none L h))
window_is (suc L) h (suc n) = ap₂ ◌+◌ (sym (rest-none h (suc n))) (window_is L h n ∙ ap (up_to L) (fun_ext (λ i. sym (rest_on i h n))))

windows_row : (L : ℕ) (h : ℕ → ℕ) (N n : ℕ) → windows L (newest h n) (row n N h) ≡ row n N (more L h)
unfolding windows row newest
windows_row L h zero n = refl
windows_row L h (suc N) n = ap₂ ◌∷◌ (window_is L h n) (windows_row L h N (suc n))

-- the row with one number more
row_more : (L k N : ℕ) → windows L [] (row 0 N (ways L k)) ≡ row 0 N (ways L (suc k))
unfolding newest more ways
row_more L k N = windows_row L (ways L k) N 0

-- the 190 entries, computed by windows
unfoldable pub entries : List ℕ
entries = windows 64 [] (windows 64 [] (windows 64 [] (row 0 190 (ways 64 0))))

entries_are : entries ≡ row 0 190 (ways 64 3)
unfolding entries
entries_are =
    ap (λ (r : List ℕ). windows 64 [] (windows 64 [] r)) (row_more 64 0 190)
    ∙ ap (windows 64 []) (row_more 64 1 190)
    ∙ row_more 64 2 190

-- in rows of ten
unfoldable pub tens : ℕ → List ℕ → List (List ℕ)
tens zero l = []
tens (suc m) l = take 10 l ∷ tens m (drop 10 l)

row_at : (N n : ℕ) (h : ℕ → ℕ) (i : ℕ) → i < N → get_or (row n N h) i 0 ≡ h (n + i)
unfolding row
row_at zero n h i l = absurd (omega arith)
row_at (suc N) n h zero l = ap h (omega arith)
row_at (suc N) n h (suc i) l = row_at N (suc n) h i (omega arith) ∙ ap h (omega arith)

get_or_tens : (m : ℕ) (l : List ℕ) (i j : ℕ) → i < m → j < 10 → get_or (get_or (tens m l) i []) j 0 ≡ get_or l (i * 10 + j) 0
unfolding tens
get_or_tens zero l i j a b = absurd (omega arith)
get_or_tens (suc m) l zero j a b = get_or-take 10 l j 0 b ∙ ap (λ (k : ℕ). get_or l k 0) (let e : j ≡ 0 * 10 + j = omega arith in e)
get_or_tens (suc m) l (suc i) j a b =
    get_or_tens m (drop 10 l) i j (omega arith) b
    ∙ get_or-drop 10 l (i * 10 + j) 0
    ∙ ap (λ (k : ℕ). get_or l k 0) (let e : 10 + (i * 10 + j) ≡ suc i * 10 + j = omega arith in e)

-- a table that passes the test holds the ways
pub table_is : (table : List (List ℕ)) → table ≡ tens 19 entries → HoldsWays table
table_is table e i j h k =
    ap (λ (t : List (List ℕ)). get_or (get_or t i []) j 0) e
    ∙ get_or_tens 19 entries i j h k
    ∙ ap (λ (r : List ℕ). get_or r (i * 10 + j) 0) entries_are
    ∙ row_at 190 0 (ways 64 3) (i * 10 + j) (omega arith)
    ∙ ap (ways 64 3) (zero-add (i * 10 + j))
