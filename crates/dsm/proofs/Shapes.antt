-- A step leaves as many cells as it found, and those beyond the order as they were.
use mathlib.Core.Path.{◌≡◌, refl, ap, ◌∙◌}
use mathlib.Core.List.{List, [], ◌∷◌, ◌++◌}
use Prim.Native.Nat.{ℕ, zero, suc, ◌+◌, ◌-◌, ◌/◌, ◌%◌, ◌^◌, ◌≤◌}
use native.Mathlib.Omega.{arith}
use lib.IntN.{ℤ, pos, ◌+ℤ◌, ◌-ℤ◌}
use lib.ListN.{length, take, drop, length-append}
use lib.Seq.{drop_at, length-take-le, length_front}
use Rattle.dsm.specs.Modulator.{accumulated, carries, retaining, keeping}

pub length-accumulated : (x : ℕ) (l : List ℕ) → length (accumulated x l) ≡ length l
unfolding accumulated
length-accumulated x [] = refl
length-accumulated x (a ∷ l) = ap suc (length-accumulated ((a + x) % 2 ^ 32) l)

pub length-carries : (x : ℕ) (l : List ℕ) → length (carries x l) ≡ length l
unfolding carries
length-carries x [] = refl
length-carries x (a ∷ l) =
    let h = length-carries ((a + x) % 2 ^ 32) l in
    rw (length-append (carries ((a + x) % 2 ^ 32) l) ((a + x) / 2 ^ 32 ∷ [])) (omega arith)

pub length-retaining : (y : ℤ) (cs : List ℕ) (l : List ℤ) → length (retaining y cs l) ≡ length l
unfolding retaining
length-retaining y [] l = refl
length-retaining y (c ∷ cs) [] = refl
length-retaining y (c ∷ cs) (cell ∷ l) = ap suc (length-retaining (pos c +ℤ y -ℤ cell) cs l)

pub length-keeping : (cs : List ℕ) (l : List ℤ) → length (keeping cs l) ≡ length l
unfolding keeping
length-keeping [] l = refl
length-keeping (c ∷ cs) l = length-retaining (pos c) cs l

beyond_retaining : (m : ℕ) (y : ℤ) (cs : List ℕ) (l : List ℤ) → length cs ≤ m → drop m (retaining y cs l) ≡ drop m l
unfolding retaining
beyond_retaining m y [] l h = refl
beyond_retaining zero y (c ∷ cs) l h = absurd (omega arith)
beyond_retaining (suc m) y (c ∷ cs) [] h = refl
beyond_retaining (suc m) y (c ∷ cs) (cell ∷ l) h = beyond_retaining m (pos c +ℤ y -ℤ cell) cs l (omega arith)

pub beyond_keeping : (n : ℕ) (cs : List ℕ) (l : List ℤ) → length cs ≡ n → drop (n - 1) (keeping cs l) ≡ drop (n - 1) l
unfolding keeping
beyond_keeping n [] l h = refl
beyond_keeping n (c ∷ cs) l h = beyond_retaining (n - 1) (pos c) cs l (omega arith)

pub whole : (n x : ℕ) (l : List ℕ) → length (accumulated x (take n l) ++ drop n l) ≡ length l
whole n x l = length_front l (accumulated x (take n l)) n (length-accumulated x (take n l))

module _ (n x : ℕ) (l : List ℕ) (room : n ≤ length l) where
  pub used : length (carries x (take n l)) ≡ n
  used = length-carries x (take n l) ∙ length-take-le n l room

  pub beyond : drop n (accumulated x (take n l) ++ drop n l) ≡ drop n l
  beyond = drop_at (accumulated x (take n l)) (drop n l) n (length-accumulated x (take n l) ∙ length-take-le n l room)
