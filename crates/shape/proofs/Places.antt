-- The next place of a ring is the one after, or the first after the last.
use Rattle.std.proofs.Common.{ℕ, suc, ◌-◌, ◌<◌, refl, inl, inr, ⊎_elim, eq-zero-or-pos, arith, le-ltb, lt-ltb}
use Rattle.sums.proofs.Lent.{Follows}
use Rattle.shape.specs.Answers.{next_place}

pub follows : (at m : ℕ) → at < m → Follows at m (next_place at m)
unfolding next_place
follows at m h =
    ⊎_elim
    (λ z. rw (le-ltb (suc at) m (omega arith)) (record { inside = omega arith; is = inr (refl, omega arith) }))
    (λ p. rw (lt-ltb (suc at) m (omega arith)) (record { inside = omega arith; is = inl (omega arith) }))
    (eq-zero-or-pos (m - suc at))
