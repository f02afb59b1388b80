-- A step on the cells is document 01's step, and a loop of such steps gives what they give in turn.
use mathlib.Core.Path.{◌≡◌, refl, sym, ◌∙◌}
use mathlib.Core.List.{List}
use Prim.Native.Nat.{ℕ, ◌+◌, ◌<◌, ◌≤◌}
use native.Mathlib.Nat.{ne_of_lt}
use native.Mathlib.Omega.{arith}
use lib.IntN.{ℤ, pos}
use lib.ListN.{length, get_or, set}
use lib.Seq.{get_or-set_same, get_or-set_other}
use borrow.Author.Count.{below_more}
use Rattle.blocks.proofs.Turns.{Going, turn}
use Rattle.dsm.specs.declared.Dsm.{Dsm}
use Rattle.dsm.specs.Modulator.{modulator_out, next_of, InRange}
use Rattle.dsm.specs.Calls.{state_number, Keeps}
use Rattle.dsm.specs.Cells.{Accumulates, Combines, Turns}
use Rattle.dsm.proofs.Shapes.{beyond_keeping, used, beyond}
use Rattle.dsm.proofs.Refusals.{none, none-order}

pub keeps_same : (s : Dsm) → Keeps s s
keeps_same s = record { order = refl; accepted = refl; accumulators = refl; retained = refl }

keeps_then : (s t u : Dsm) → Keeps s t → Keeps t u → Keeps s u
keeps_then s t u p q = record {
  order = q.order ∙ p.order;
  accepted = q.accepted ∙ p.accepted;
  accumulators = rw p.order at q.accumulators ∙ p.accumulators;
  retained = rw p.order at q.retained ∙ p.retained;
}

-- the halves of a step are the step
pub turns : (s : Dsm) (x : ℕ) (a : List ℕ) (d : ℕ) (c : List ℤ) (y : ℤ) → s.order ≤ length s.accumulators → state_number s ≡ 0
    → Accumulates s.order s.accumulators x a d → Combines s.order d s.retained c y
    → Turns s x (record { order = s.order; accumulators = a; retained = c }) y
unfolding next_of modulator_out
turns s x a d c y room ok p q =
    let n = s.order in let k = s.accumulators in
    record {
      state = rw (p.cells, q.cells, p.carried);
      out = q.out ∙ rw p.carried;
      keeps = record {
        order = refl;
        accepted = none (record { order = s.order; accumulators = a; retained = c }) (none-order s ok) q.stay ∙ sym ok;
        accumulators = rw p.cells (beyond n x k room);
        retained = rw (q.cells, p.carried) (beyond_keeping n _ s.retained (used n x k room));
      };
      range = q.range;
    }

-- what the loop holds at step i: the state t so far
pub record Running (s : Dsm) (xs : List ℕ) (ys : List ℤ) (t : Dsm) (i : ℕ) : Type 0 where
  pub going : Going modulator_out next_of s xs ys t i
  pub keeps : Keeps s t
  pub range : (j : ℕ) → j < i → InRange s.order (get_or ys j (pos 0))

module _ (s : Dsm) (xs : List ℕ) where
  pub running_turn : (ys : List ℤ) (t u : Dsm) (i : ℕ) (y : ℤ) → i < length xs → Running s xs ys t i → Turns t (get_or xs i 0) u y
      → Running s xs (set ys i y) u (i + 1)
  running_turn ys t u i y h g r =
      let short : i < length ys = omega (arith, g.going.same) in
      record {
        going = rw (r.out, r.state) (turn modulator_out next_of s xs ys t i 0 h g.going);
        keeps = keeps_then s t u g.keeps r.keeps;
        range = below_more (λ j. InRange s.order (get_or (set ys i y) j (pos 0))) i
            (λ j k. rw (get_or-set_other ys i j y (pos 0) (ne_of_lt k)) (g.range j k))
            (rw (get_or-set_same ys i y (pos 0) short) (rw g.keeps.order at r.range));
      }
