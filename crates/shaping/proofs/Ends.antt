-- By computation: the definition reaches both ends of its range.
use mathlib.Core.Path.{◌≡◌, refl}
use mathlib.Core.Bool.{Bool, true, ◌&&◌}
use Prim.Native.Nat.{ℕ, zero, suc, ◌≤◌}
use mathlib.Core.Logic.{⊎_elim}
use native.Mathlib.Nat.{eq-or-lt_of_le}
use native.Mathlib.Omega.{arith}
use Rattle.dsm.specs.Modulator.{accumulated, carries, combined, retaining, output, keeping, modulator_out, next_of, least, greatest}
use Rattle.shaping.specs.Totals.{modulated}
use Rattle.shaping.specs.Ends.{among, swing, EndsReached}
use Rattle.dsm.proofs.Ranges.{both}

-- a test that each number of 1 .. n passes
passes : (ℕ → Bool) → ℕ → Bool
passes test zero = true
passes test (suc n) = passes test n && test (suc n)

pass : (test : ℕ → Bool) (n k : ℕ) → passes test n ≡ true → 1 ≤ k → k ≤ n → test k ≡ true
unfolding passes
pass test zero k h l m = absurd (omega arith)
pass test (suc n) k h l m =
    let b = both (passes test n) (test (suc n)) h in
    ⊎_elim (λ e. rw e b.1) (λ e. pass test n k b.0 l (omega arith)) (eq-or-lt_of_le m)

reaches : ℕ → Bool
reaches K = among (least K) (modulated K (swing K)) && among (greatest K) (modulated K (swing K))

all_reach : passes reaches 8 ≡ true
unfolding passes reaches accumulated carries combined retaining output keeping modulator_out next_of
all_reach = refl

pub ends_reached : EndsReached
unfolding reaches
ends_reached K l m =
    both (among (least K) (modulated K (swing K))) (among (greatest K) (modulated K (swing K))) (pass reaches 8 K all_reach l m)
