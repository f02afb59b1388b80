-- What a block leaves and answers: the number of a refusal, 0 where it was done.
use Rattle.std.specs.Prelude.{◌≡◌, List, ℕ, ℤ}
use Rattle.blocks.specs.Blocks.{lengths_number, unless}
use Rattle.blocks.specs.Scan.{scan, ends}
use Rattle.dsm.specs.declared.Dsm.{Dsm}
use Rattle.dsm.specs.Calls.{run_number}
use Rattle.dsm.specs.Modulator.{modulator_out, next_of}

-- `Blocked` of the crate blocks with a number in place of a Result: the block on s, inputs xs and lent slice ys, which k refuses,
-- leaves the state t and zs in the slice, and answers r.
pub record Leaves {S A B : Type 0} (k : ℕ) (out : S → A → B) (next : S → A → S) (s : S) (xs : List A) (ys : List B)
    (t : S) (r : ℕ) (zs : List B) : Type 0 where
  pub answer : r ≡ lengths_number k xs ys
  pub state : t ≡ unless (lengths_number k xs ys) s (ends out next s xs)
  pub written : zs ≡ unless (lengths_number k xs ys) ys (scan out next s xs)

-- The modulator's block on s, inputs xs and lent slice ys leaves the state t and zs in the slice, and answers r.
pub record Modulates (s : Dsm) (xs : List ℕ) (ys : List ℤ) (t : Dsm) (zs : List ℤ) (r : ℕ) : Type 0 where
  pub answer : r ≡ run_number s xs ys
  pub state : t ≡ unless (run_number s xs ys) s (ends modulator_out next_of s xs)
  pub written : zs ≡ unless (run_number s xs ys) ys (scan modulator_out next_of s xs)
