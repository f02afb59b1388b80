-- The loop over the retained cells: a chain whose y and cells stay in range.
use mathlib.Core.Path.{◌≡◌, refl, ap}
use mathlib.Core.Bool.{true}
use mathlib.Core.List.{List}
use Prim.Native.Nat.{ℕ, zero, suc, ◌+◌, ◌-◌, ◌/◌, ◌%◌, ◌^◌, ◌<◌, ◌≤◌}
use native.Mathlib.Omega.{arith}
use lib.IntN.{ℤ, pos, ◌+ℤ◌, ◌-ℤ◌}
use lib.ListN.{length, take, get_or, set}
use lib.Signed.{≤ℤ_refl}
use Rattle.blocks.proofs.Chains.{Chain, begin, onward, finish}
use Rattle.dsm.specs.Modulator.{output, keeping, inside_from}
use Rattle.dsm.specs.Cells.{bits_of, Combines}
use Rattle.dsm.proofs.Chaining.{old, joins, combining, olds}
use Rattle.dsm.proofs.Ranges.{Near, Meets, bit_near, meets_start, meets_cell, meets_turn, meets_end}

pub record Combining (n d : ℕ) (l₀ l : List ℤ) (left : ℕ) (y : ℤ) (j : ℕ) : Type 0 where
  pub meets : Meets n l y j
  pub chain : Chain old joins n (pos (d % 2), d) l₀ l (y, left) j

module _ (n d : ℕ) (l₀ : List ℤ) (few : n ≤ 7) (fits : n ≤ length l₀) where
  pub combining_start : inside_from 0 (take n l₀) ≡ true → Combining n d l₀ l₀ d (pos (d % 2)) 0
  combining_start h = record {
    meets = meets_start n l₀ (pos (d % 2)) (bit_near (d % 2) (omega arith)) h;
    chain = begin old joins n (pos (d % 2), d) l₀ fits;
  }

  pub combining_cell : (l : List ℤ) (left : ℕ) (y : ℤ) (j : ℕ) → j < n → Combining n d l₀ l left y j → Near j (get_or l j (pos 0))
  combining_cell l left y j h g = meets_cell n l y j few (omega (arith, g.chain.same)) g.meets h

  pub combining_turn : (l : List ℤ) (left : ℕ) (y : ℤ) (j : ℕ) → j < n → Combining n d l₀ l left y j
      → Combining n d l₀ (set l j y) (left / 2) (pos (left / 2 % 2) +ℤ y -ℤ get_or l j (pos 0)) (j + 1)
  combining_turn l left y j h g = record {
    meets = meets_turn n l y j few (omega (arith, g.chain.same)) g.meets (left / 2 % 2) h (omega arith);
    chain = onward old joins n (pos (d % 2), d) l₀ fits l (y, left) j (pos 0) h g.chain;
  }

pub combining_end : (order d : ℕ) (l₀ l : List ℤ) (left : ℕ) (y : ℤ) (j : ℕ) → order ≤ 8 → d < 2 ^ order → order ≤ length l₀ → order ≤ j + 1
    → Combining (order - 1) d l₀ l left y j → Combines order d l₀ l y
unfolding bits_of output keeping inside_from
combining_end zero d l₀ l left y j few small fits h g =
    let f = finish old joins 0 (pos (d % 2), d) l₀ (omega arith) l (y, left) j (omega arith) g.chain in
    let z : d % 2 ≡ 0 = omega arith in
    let e : y ≡ pos 0 = rw z at (ap (λ (s : ℤ × ℕ). s.0) f.1) in
    record { cells = f.0; out = e; stay = refl; range = rw e (record { low = ≤ℤ_refl (pos 0); high = ≤ℤ_refl (pos 0) }) }
combining_end (suc n) d l₀ l left y j few small fits h g' =
    let p : suc n - 1 ≡ n = omega arith in
    let g = rw p at g' in
    let f = finish old joins n (pos (d % 2), d) l₀ (omega arith) l (y, left) j (omega arith) g.chain in
    let m = meets_end n l y j (omega arith) (omega (arith, g.chain.same)) g.meets (omega arith) g.chain.small in
    record {
      cells = rw olds at f.0;
      out = rw combining at (ap (λ (s : ℤ × ℕ). s.0) f.1);
      stay = rw p m.0;
      range = m.1;
    }
