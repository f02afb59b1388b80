-- The last integrator, as the code finds it.
use Rattle.std.proofs.Common.{◌≡◌, ℕ, zero, suc, ◌-◌, ◌≤◌, get_or, arith}
use Rattle.sums.specs.Ops.{Ops}
use Rattle.sums.specs.State.{State}
use Rattle.sums.specs.Calls.{current_at}

pub current-last : {A : Type 0} (o : Ops A) (s : State A) (n : ℕ) → 1 ≤ n → get_or s.integrators (n - 1) o.nil ≡ current_at o s n
unfolding current_at
current-last o s zero h = absurd (omega arith)
current-last o s (suc n) h = let e : suc n - 1 ≡ n = omega arith in rw e
