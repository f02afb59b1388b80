-- Bytes put into a lent buffer at a place.
use Rattle.std.specs.Prelude.{cond, ◌≡◌, List, ◌++◌, ℕ, ◌+◌, leb, length, take, drop}

-- the list with bs at the place
unfoldable pub overlaid : List ℕ → ℕ → List ℕ → List ℕ
overlaid l at bs = take at l ++ (bs ++ drop (at + length bs) l)

-- bs were put into o at the place: r is the next place, and o' the buffer afterwards
pub record Wrote (o : List ℕ) (at : ℕ) (bs : List ℕ) (r : ℕ) (o' : List ℕ) : Type 0 where
  pub next : r ≡ at + length bs
  pub text : o' ≡ overlaid o at bs

-- the same where there is room for all of bs; elsewhere nothing is written, and the place stays
pub record Puts (o : List ℕ) (at : ℕ) (bs : List ℕ) (r : ℕ) (o' : List ℕ) : Type 0 where
  pub next : r ≡ cond (leb (at + length bs) (length o)) (at + length bs) at
  pub text : o' ≡ cond (leb (at + length bs) (length o)) (overlaid o at bs) o

-- 01, 'Promises that bite': any two results that the promise allows are equal.
abbrev pub PutSettled : Type 0
PutSettled = (o bs us vs : List ℕ) (at q r : ℕ) → Puts o at bs q us → Puts o at bs r vs → (q ≡ r) × (us ≡ vs)
