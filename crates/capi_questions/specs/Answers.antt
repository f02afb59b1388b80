-- What a question leaves where its value was asked for, and the number that it answers.
use Rattle.std.specs.Prelude.{◌≡◌, ℕ, Bool, cond, Result, Ok, Err}
use Rattle.blocks.specs.declared.refusal.Refusal.{Refusal}
use Rattle.blocks.specs.Blocks.{unless}

-- the value, or what was there
abbrev pub told_or : Result ℕ Refusal → ℕ → ℕ
told_or (Ok v) old = v
told_or (Err r) old = old

-- The question of number k (0: answered) and value x, where the value stood as v and stands as w, answers r.
pub record Tells (k x v w r : ℕ) : Type 0 where
  pub answer : r ≡ k
  pub value : w ≡ unless k v x

-- 1 for yes, 0 for no
pub record Fits (k : ℕ) (b : Bool) (v w r : ℕ) : Type 0 where
  pub answer : r ≡ k
  pub value : w ≡ unless k v (cond b 1 0)
