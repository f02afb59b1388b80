-- What the promises of private functions cite: the steps in turn, parted into the inputs that are kept, the countdown and the outputs.
use Rattle.std.specs.Prelude.{List, [], ◌∷◌, ℕ, zero, suc, ℤ}
use Rattle.fir.specs.Weights.{taken, weighed}

-- The inputs kept after xs.
unfoldable pub kept : List ℤ → List ℤ → List ℤ
kept cells [] = cells
kept cells (x ∷ xs) = kept (taken cells x) xs

-- The countdown after n inputs.
unfoldable pub due_in : ℕ → ℕ → ℕ
due_in c zero = c
due_in zero (suc n) = due_in 63 n
due_in (suc c) (suc n) = due_in c n

-- The outputs along xs, from the inputs kept and a countdown.
unfoldable pub outputs_from : List ℤ → ℕ → List ℤ → List ℤ
outputs_from cells c [] = []
outputs_from cells zero (x ∷ xs) = weighed (taken cells x) ∷ outputs_from (taken cells x) 63 xs
outputs_from cells (suc c) (x ∷ xs) = outputs_from (taken cells x) c xs
