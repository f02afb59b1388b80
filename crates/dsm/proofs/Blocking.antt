-- Where the order is no refusal, a block's promise is the one that all one-to-one blocks share.
use mathlib.Core.List.{List}
use Prim.Native.Nat.{ℕ, ◌≤◌}
use borrow.Author.Tests.{le-ltb}
use lib.IntN.{ℤ}
use Rattle.std.specs.Prelude.{Result}
use Rattle.blocks.specs.declared.refusal.Refusal.{Refusal}
use Rattle.blocks.specs.Blocks.{Blocked}
use Rattle.dsm.specs.declared.Dsm.{Dsm}
use Rattle.dsm.specs.Modulator.{modulator_out, next_of}
use Rattle.dsm.specs.Calls.{cells_number, run_number, Runs}

pub runs_blocked : (s : Dsm) (xs : List ℕ) (ys : List ℤ) (t : Dsm) (r : Result (Unit {0}) Refusal) (zs : List ℤ) → s.order ≤ 8
    → Runs s xs ys t r zs → Blocked (cells_number s) modulator_out next_of s xs ys t r zs
unfolding run_number
runs_blocked s xs ys t r zs h p =
    let e = le-ltb 8 s.order h in
    record { verdict = rw e at p.verdict; state = rw e at p.state; written = rw e at p.written }
