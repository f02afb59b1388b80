-- The ways in which calls end: r is the refusal that the code found, of the number k.
use mathlib.Core.Path.{◌≡◌}
use mathlib.Core.List.{List}
use Prim.Native.Nat.{ℕ}
use lib.IntN.{ℤ}
use Rattle.std.specs.Prelude.{Result, Ok, Err}
use Rattle.blocks.specs.declared.refusal.Refusal.{Refusal}
use Rattle.blocks.specs.Refusals.{answer}
use Rattle.blocks.proofs.Refusals.{refused_too}
use Rattle.blocks.proofs.Ways.{kept, never}
use Rattle.dsm.specs.declared.Dsm.{Dsm}
use Rattle.dsm.specs.Calls.{state_number, run_number, Steps, Runs}
use Rattle.dsm.specs.Cells.{Turns, Modulates}
use Rattle.dsm.proofs.Running.{keeps_same}

module _ {V : Type 0} (k : ℕ) (v : V) (r : Refusal) (e : ◌≡◌ {A = Result V Refusal} (Err r) (answer k v)) where
  pub step-refused : (s : Dsm) (x : ℕ) → state_number s ≡ k → Steps s x s (Err r)
  step-refused s x f = record {
    state = rw f (kept k s _ (never k v r e));
    out = rw f (refused_too k v _ r e);
    keeps = keeps_same s;
    range = λ y g. cc;
  }

  pub block_refused : (s : Dsm) (xs : List ℕ) (ys : List ℤ) → run_number s xs ys ≡ k → Runs s xs ys s (Err r) ys
  block_refused s xs ys f = record {
    verdict = rw f (refused_too k v tt r e);
    state = rw f (kept k s _ (never k v r e));
    written = rw f (kept k ys _ (never k v r e));
    keeps = keeps_same s;
    range = λ g. cc;
  }

pub step-taken : (s : Dsm) (x : ℕ) (t : Dsm) (y : ℤ) → state_number s ≡ 0 → Turns s x t y → Steps s x t (Ok y)
unfolding answer
step-taken s x t y ok p = record {
  state = rw ok p.state;
  out = rw (ok, p.out);
  keeps = p.keeps;
  range = λ z e. let f : y ≡ z = cc in rw f at p.range;
}

pub block_done : (s : Dsm) (xs : List ℕ) (ys : List ℤ) (t : Dsm) (zs : List ℤ) → run_number s xs ys ≡ 0 → Modulates s xs t zs
    → Runs s xs ys t (Ok tt) zs
unfolding answer
block_done s xs ys t zs e m = record {
  verdict = rw e;
  state = rw e m.state;
  written = rw e m.written;
  keeps = m.keeps;
  range = λ g. m.range;
}
