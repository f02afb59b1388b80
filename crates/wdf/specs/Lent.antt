-- For the private function alone that runs on a lent array: what it promises, by the step of Calls.
use Rattle.std.specs.Prelude.{◌≡◌, List, ℤ}
use Rattle.wdf.specs.declared.filter.Wdf.{Wdf}
use Rattle.wdf.specs.Calls.{answer, next}

-- One input x went through the filter s: y is the answer, w are the cells after.
abbrev pub Passes : Wdf → ℤ → ℤ → List ℤ → Type 0
Passes s x y w = (y ≡ answer s x) × (w ≡ (next s x).z)
