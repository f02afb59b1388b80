-- 01: the moving sum.
use Rattle.std.specs.Prelude.{ℕ, zero, suc, ◌/◌}
use Rattle.sums.specs.Ops.{Ops}

-- The sum of the last L values of f at t, with zeros before the start.
unfoldable pub last : {A : Type 0} → Ops A → ℕ → (ℕ → A) → ℕ → A
last o zero f t = o.nil
last o (suc L) f zero = f zero
last o (suc L) f (suc t) = o.add (last o L f t) (f (suc t))

-- Fold 0 is the input itself; each further fold adds up the last L values of the fold before. Document 01's L is R · M.
unfoldable pub moving : {A : Type 0} → Ops A → ℕ → ℕ → (ℕ → A) → ℕ → A
moving o L zero x = x
moving o L (suc n) x = last o L (moving o L n x)

-- The held input: each sample repeated R times.
unfoldable pub held : {A : Type 0} → ℕ → (ℕ → A) → ℕ → A
held R x t = x (t / R)
