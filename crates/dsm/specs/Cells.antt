-- For private functions alone: the step's halves on lent cells, the step of an accepted state, and the block's loop.
use Rattle.std.specs.Prelude.{◌≡◌, true, List, [], ◌∷◌, ◌++◌, ℕ, zero, suc, ◌-◌, ◌/◌, ◌%◌, ◌^◌, ◌<◌, ℤ, pos, length, take, drop, get_or}
use Rattle.blocks.specs.Scan.{scan, ends}
use Rattle.dsm.specs.declared.Dsm.{Dsm}
use Rattle.dsm.specs.Modulator.{accumulated, carries, output, keeping, modulator_out, next_of, inside_from, InRange}
use Rattle.dsm.specs.Calls.{Keeps}

-- the n lowest bits of d, the lowest first
unfoldable pub bits_of : ℕ → ℕ → List ℕ
bits_of zero d = []
bits_of (suc n) d = d % 2 ∷ bits_of n (d / 2)

-- The first n accumulators have run from x; d has their carries as bits, the last carry lowest.
pub record Accumulates (n : ℕ) (l : List ℕ) (x : ℕ) (a : List ℕ) (d : ℕ) : Type 0 where
  pub cells : a ≡ accumulated x (take n l) ++ drop n l
  pub carried : bits_of n d ≡ carries x (take n l)
  pub small : d < 2 ^ n

-- The carries d of n accumulators have met the retained cells, which were in range and are again.
pub record Combines (n d : ℕ) (l : List ℤ) (c : List ℤ) (y : ℤ) : Type 0 where
  pub cells : c ≡ keeping (bits_of n d) l
  pub out : y ≡ output (bits_of n d) l
  pub stay : inside_from 0 (take (n - 1) c) ≡ true
  pub range : InRange n y

-- The step on the accepted state s and x has run; t is the state after, y the output.
pub record Turns (s : Dsm) (x : ℕ) (t : Dsm) (y : ℤ) : Type 0 where
  pub state : t ≡ next_of s x
  pub out : y ≡ modulator_out s x
  pub keeps : Keeps s t
  pub range : InRange s.order y

-- The steps on s over xs have run; t is the state after, zs what is written.
pub record Modulates (s : Dsm) (xs : List ℕ) (t : Dsm) (zs : List ℤ) : Type 0 where
  pub state : t ≡ ends modulator_out next_of s xs
  pub written : zs ≡ scan modulator_out next_of s xs
  pub keeps : Keeps s t
  pub range : (i : ℕ) → i < length zs → InRange s.order (get_or zs i (pos 0))
