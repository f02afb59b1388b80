-- Ranges, counted from an offset so that they are omega's: a carry and the difference of two numbers in a range are in the next range.
use mathlib.Core.Path.{◌≡◌, refl, sym, ap, ◌∙◌, subst}
use mathlib.Core.Bool.{Bool, true, false, true≢false, ◌&&◌}
use mathlib.Core.List.{List, [], ◌∷◌, ◌++◌}
use Prim.Native.Nat.{ℕ, suc, ◌+◌, ◌^◌, ◌<◌, ◌≤◌}
use native.Mathlib.Nat.{two-pow-succ, add-zero}
use native.Mathlib.Numerals.{add-one}
use native.Mathlib.Omega.{arith}
use lib.Dec.{T}
use lib.Pow.{pow_mono}
use lib.IntN.{ℤ, pos, negsuc, ◌+ℤ◌, ◌-ℤ◌}
use lib.ListN.{length, take, drop, get_or, set}
use lib.Seq.{slice, slice-cons, slice_empty, take-suc-set, take-set-lt, drop-set-lt, length-take-le}
use lib.Signed.{mag, le_z, le_z_yes}
use borrow.Author.Tests.{leb-true, le-leb}
use Rattle.words.proofs.Sizes.{off, off_add, off_minus, mag_add, mag_minus}
use Rattle.dsm.specs.Modulator.{inside, inside_from, InRange}

pub both : (a b : Bool) → (a && b) ≡ true → (a ≡ true) × (b ≡ true)
both true b h = (refl, h)
both false true h = (h, refl)
both false false h = (h, h)

pub all : (a b : Bool) → a ≡ true → b ≡ true → (a && b) ≡ true
all a b h k = rw (h, k)

-- from 1 - 2 ^ j to 2 ^ j
pub record Near (j : ℕ) (z : ℤ) : Type 0 where
  pub low : 65536 < off 65536 z + 2 ^ j
  pub high : off 65536 z ≤ 65536 + 2 ^ j

pub near-small : (j : ℕ) (z : ℤ) → j ≤ 7 → Near j z → mag z ≤ 2 ^ j
near-small j (pos n) h r = omega (arith, r.high)
near-small j (negsuc n) h r = let p : 2 ^ j ≤ 128 = pow_mono {j = 7} h in omega (arith, r.low)

-- an order of numbers is one of their places
le_z_off : (B : ℕ) (a b : ℤ) → le_z a b ≡ true → off B a ≤ off B b
le_z_off B (pos m) (pos n) t = let k = leb-true m n t in omega arith
le_z_off B (pos m) (negsuc n) t = absurd (true≢false (sym t))
le_z_off B (negsuc m) (pos n) t = omega arith
le_z_off B (negsuc m) (negsuc n) t = let k = leb-true n m t in omega arith

off_le_z : (B : ℕ) (a b : ℤ) → mag a < B → mag b < B → off B a ≤ off B b → le_z a b ≡ true
off_le_z B (pos m) (pos n) h k l = le-leb m n (omega arith)
off_le_z B (pos m) (negsuc n) h k l = absurd (omega arith)
off_le_z B (negsuc m) (pos n) h k l = refl
off_le_z B (negsuc m) (negsuc n) h k l = le-leb n m (omega arith)

module _ (j : ℕ) (z : ℤ) (small : j ≤ 7) where
  pub low-size : mag (pos 1 -ℤ pos (2 ^ j)) ≤ 130
  low-size = let p : 2 ^ j ≤ 128 = pow_mono {j = 7} small in let m = mag_minus (pos 1) (pos (2 ^ j)) in omega arith

  low_off : off 65536 (pos 1 -ℤ pos (2 ^ j)) + 2 ^ j ≡ 65537
  low_off =
      let p : 2 ^ j ≤ 128 = pow_mono {j = 7} small in
      let e = off_minus 65536 (pos 1) (pos (2 ^ j)) (omega arith) in
      omega arith

  pub inside-near : inside j z ≡ true → Near j z
  inside-near h =
      let b = both (le_z (pos 1 -ℤ pos (2 ^ j)) z) (le_z z (pos (2 ^ j))) h in
      let e = low_off in
      let l = le_z_off 65536 (pos 1 -ℤ pos (2 ^ j)) z b.0 in
      let k = le_z_off 65536 z (pos (2 ^ j)) b.1 in
      record { low = omega arith; high = omega arith }

  pub near-inside : Near j z → inside j z ≡ true
  near-inside r =
      let p : 2 ^ j ≤ 128 = pow_mono {j = 7} small in
      let s = near-small j z small r in
      let m = low-size in
      let e = low_off in
      all (le_z (pos 1 -ℤ pos (2 ^ j)) z) (le_z z (pos (2 ^ j)))
      (off_le_z 65536 (pos 1 -ℤ pos (2 ^ j)) z (omega arith) (omega arith) (omega (arith, r.low)))
      (off_le_z 65536 z (pos (2 ^ j)) (omega arith) (omega arith) (omega (arith, r.high)))

-- a range of cell j is that of an output of order j + 1
pub inside-range : (j : ℕ) (z : ℤ) → inside j z ≡ true → InRange (suc j) z
inside-range j z h =
    let b = both (le_z (pos 1 -ℤ pos (2 ^ j)) z) (le_z z (pos (2 ^ j))) h in
    record { low = le_z_yes (subst T (sym b.0) tt); high = le_z_yes (subst T (sym b.1) tt) }

-- carry + y - cell
pub near_next : (j carry : ℕ) (y cell : ℤ) → j ≤ 6 → carry < 2 → Near j y → Near j cell → Near (suc j) (pos carry +ℤ y -ℤ cell)
near_next j carry y cell h b p q =
    let w : 2 ^ j ≤ 64 = pow_mono {j = 6} h in
    let my = near-small j y (omega arith) p in
    let mc = near-small j cell (omega arith) q in
    let ms = mag_add (pos carry) y in
    let e = off_add 65536 (pos carry) y (omega arith) in
    let f = off_minus 65536 (pos carry +ℤ y) cell (omega arith) in
    let t = two-pow-succ j in
    record { low = omega (arith, p.low, q.high); high = omega (arith, p.high, q.low) }

pub bit_near : (carry : ℕ) → carry < 2 → Near 0 (pos carry)
bit_near carry h = record { low = omega arith; high = omega arith }

-- the cells from j on are cell j and the cells after it
pub inside-first : (n j : ℕ) (l : List ℤ) → j < n → n ≤ length l
    → inside_from j (slice j n l) ≡ (inside j (get_or l j (pos 0)) && inside_from (suc j) (slice (suc j) n l))
unfolding inside_from
inside-first n j l h k = rw (slice-cons j n l (pos 0) h k)

-- a test of the cells in turn, b being what it finds of cell j
pub inside_turn : (n j : ℕ) (l : List ℤ) (b : Bool) → j < n → n ≤ length l → inside_from 0 (take n l) ≡ inside_from j (slice j n l)
    → inside j (get_or l j (pos 0)) ≡ b → inside_from 0 (take n l) ≡ (b && inside_from (suc j) (slice (suc j) n l))
inside_turn n j l b h k e f = e ∙ inside-first n j l h k ∙ rw f

pub inside-none : (n j : ℕ) (l : List ℤ) → n ≡ j → inside_from j (slice j n l) ≡ true
unfolding inside_from
inside-none n j l e = rw (e, slice_empty)

-- one cell more at the end of cells in range
inside-more : (j : ℕ) (l : List ℤ) (z : ℤ) → inside_from j l ≡ true → inside (j + length l) z ≡ true → inside_from j (l ++ (z ∷ [])) ≡ true
unfolding inside_from
inside-more j [] z h k = rw (add-zero j) at (all (inside (j + 0) z) true k refl)
inside-more j (a ∷ l) z h k =
    let b = both (inside j a) (inside_from (suc j) l) h in
    let e : suc j + length l ≡ j + suc (length l) = omega arith in
    all (inside j a) (inside_from (suc j) (l ++ (z ∷ []))) b.0 (inside-more (suc j) l z b.1 (rw e k))

-- Carries meet the first n cells: y at cell j, the cells before it made anew and the cells from it on as they came are in range.
pub record Meets (n : ℕ) (l : List ℤ) (y : ℤ) (j : ℕ) : Type 0 where
  pub here : Near j y
  pub made : inside_from 0 (take j l) ≡ true
  pub rest : inside_from j (slice j n l) ≡ true

module _ (n : ℕ) (l : List ℤ) where
  pub meets_start : (y : ℤ) → Near 0 y → inside_from 0 (take n l) ≡ true → Meets n l y 0
  unfolding inside_from
  meets_start y r h = record { here = r; made = refl; rest = h }

  module _ (y : ℤ) (j : ℕ) (few : n ≤ 7) (room : n ≤ length l) (m : Meets n l y j) where
    split : j < n → (inside j (get_or l j (pos 0)) ≡ true) × (inside_from (suc j) (slice (suc j) n l) ≡ true)
    split h = both (inside j (get_or l j (pos 0))) (inside_from (suc j) (slice (suc j) n l)) (rw (inside-first n j l h room) at m.rest)

    pub meets_cell : j < n → Near j (get_or l j (pos 0))
    meets_cell h = inside-near j (get_or l j (pos 0)) (omega arith) (split h).0

    pub meets_turn : (carry : ℕ) → j < n → carry < 2 → Meets n (set l j y) (pos carry +ℤ y -ℤ get_or l j (pos 0)) (j + 1)
    meets_turn carry h b =
        let short : j < length l = omega arith in
        let at : 0 + length (take j l) ≡ j = omega (arith, length-take-le j l (omega arith)) in
        let i : inside j y ≡ true = near-inside j y (omega arith) m.here in
        let rest : slice (suc j) n (set l j y) ≡ slice (suc j) n l =
        ap (drop (suc j)) (take-set-lt n l j y h) ∙ drop-set-lt (suc j) (take n l) j y (omega arith) in
        rw add-one (record {
          here = near_next j carry y (get_or l j (pos 0)) (omega arith) b m.here (meets_cell h);
          made = rw (take-suc-set l j y short) (inside-more 0 (take j l) y m.made (rw at i));
          rest = rw rest (split h).1;
        })

    pub meets_end : n ≤ j → j ≤ n → (inside_from 0 (take n l) ≡ true) × InRange (suc n) y
    meets_end h k =
        let e : j ≡ n = omega arith in
        (rw e at m.made, inside-range n y (near-inside n y few (rw e at m.here)))
