-- The numbers of a state and of a block, by the tests that lead to them.
use mathlib.Core.Path.{◌≡◌, refl}
use mathlib.Core.Bool.{Bool, true, false}
use mathlib.Core.List.{List}
use Prim.Native.Nat.{ℕ, ◌-◌, ◌≤◌}
use native.Mathlib.Omega.{arith}
use lib.Dec.{ltb}
use lib.IntN.{ℤ}
use lib.ListN.{length, take}
use borrow.Author.Tests.{lt-ltb, le-ltb, ltb-true, ltb-false, eq-eqb, ne_eqb}
use Rattle.dsm.specs.declared.Dsm.{Dsm}
use Rattle.dsm.specs.Modulator.{inside_from}
use Rattle.dsm.specs.Calls.{order_number, cells_number, state_number, run_number}

pub order-none : (n : ℕ) → order_number n ≡ 0 → n ≤ 8
order-none n h = pick (ltb 8 n) refl
  where
    pick : (t : Bool) → ltb 8 n ≡ t → n ≤ 8
    pick true e = let k = rw (lt-ltb 8 n (ltb-true 8 n e)) at h in absurd (omega arith)
    pick false e = ltb-false 8 n e

module _ (s : Dsm) where
  abbrev pub lying : Bool
  lying = inside_from 0 (take (s.order - 1) s.retained)

  pub order_first : (order_number s.order ≡ 0 → ⊥) → state_number s ≡ order_number s.order
  unfolding state_number
  order_first h = rw (ne_eqb (order_number s.order) 0 h)

  pub then_cells : s.order ≤ 8 → state_number s ≡ cells_number s
  unfolding state_number
  then_cells h = rw (le-ltb 8 s.order h)

  pub none : s.order ≤ 8 → lying ≡ true → state_number s ≡ 0
  unfolding state_number
  none h e = rw (le-ltb 8 s.order h, e)

  pub none-order : state_number s ≡ 0 → s.order ≤ 8
  none-order h = pick (ltb 8 s.order) refl
    where
      pick : (t : Bool) → ltb 8 s.order ≡ t → s.order ≤ 8
      pick true e =
          let over = lt-ltb 8 s.order (ltb-true 8 s.order e) in
          let k = order_first (rw over (λ z. omega arith)) in
          let l = rw over at k in absurd (omega arith)
      pick false e = ltb-false 8 s.order e

  pub none_lying : state_number s ≡ 0 → lying ≡ true
  none_lying h = pick lying refl
    where
      pick : (t : Bool) → lying ≡ t → lying ≡ true
      pick true e = e
      pick false e = let k = rw e at (then_cells (none-order h)) in absurd (omega arith)

  module _ (xs : List ℕ) (ys : List ℤ) where
    pub block_order : (order_number s.order ≡ 0 → ⊥) → run_number s xs ys ≡ order_number s.order
    unfolding run_number
    block_order h = rw (ne_eqb (order_number s.order) 0 h)

    pub block_unlike : s.order ≤ 8 → (length xs ≡ length ys → ⊥) → run_number s xs ys ≡ 31
    unfolding run_number
    block_unlike h l = rw (le-ltb 8 s.order h, ne_eqb (length xs) (length ys) l)

    pub block_cells : s.order ≤ 8 → length xs ≡ length ys → run_number s xs ys ≡ cells_number s
    unfolding run_number
    block_cells h l = rw (le-ltb 8 s.order h, eq-eqb (length xs) (length ys) l)
