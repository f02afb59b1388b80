-- A comb's oldest cell, in its line and in the array.
use mathlib.Core.Path.{◌≡◌, ap, ◌∙◌}
use mathlib.Core.List.{List}
use Prim.Native.Nat.{ℕ, ◌≤◌}
use native.Mathlib.Nat.{add-zero}
use lib.ListN.{get_or, take, drop}
use lib.Seq.{get_or-take, get_or-drop}
use Rattle.sums.specs.Ops.{Ops}
use Rattle.sums.specs.Machine.{less}

pub less_at : {A : Type 0} (o : Ops A) (b M : ℕ) (l : List A) (x : A) → 1 ≤ M → less o (take M (drop b l)) x ≡ o.sub x (get_or l b o.nil)
unfolding less
less_at o b M l x h =
    ap (o.sub x) (get_or-take M (drop b l) 0 o.nil h ∙ get_or-drop b l 0 o.nil ∙ ap (λ n. get_or l n o.nil) (add-zero b))
