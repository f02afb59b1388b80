-- Words that are added and subtracted: all that the decimator and the interpolator ask of their numbers.
use Rattle.std.specs.Prelude.{◌≡◌, ℕ, zero, suc}

-- what a machine computes with: no law is asked of it
pub record Ops (A : Type 0) : Type 0 where
  pub add : A → A → A
  pub sub : A → A → A
  pub nil : A

-- n times x, as the sum of n of them
unfoldable pub times : {A : Type 0} → Ops A → ℕ → A → A
times o zero x = o.nil
times o (suc n) x = o.add (times o n x) x

-- an abelian group, written with its difference: what the theorems ask
pub record Laws {A : Type 0} (o : Ops A) : Type 0 where
  pub assoc : (a b c : A) → o.add (o.add a b) c ≡ o.add a (o.add b c)
  pub comm : (a b : A) → o.add a b ≡ o.add b a
  pub add_nil : (a : A) → o.add a o.nil ≡ a
  pub add_sub : (a b : A) → o.sub (o.add a b) b ≡ a
  pub sub_add : (a b : A) → o.add (o.sub a b) b ≡ a
