-- The rows that are left to turn.
use Rattle.std.proofs.Common.{◌≡◌, ◌++◌, ◌-◌, ◌*◌, length, take, drop}
use Rattle.sums.proofs.Rings.{turned}
use Rattle.lent.proofs.stretches.unroll.Given as goal

abbrev pub invariant-loop-j : goal.invariant-loop-j
invariant-loop-j g l =
    (length l.cells ≡ 64) × (turned l.m l.at l.n l.fn.cells ≡ take (l.j * 8) l.cells ++ turned l.m l.at (l.n - l.j) (drop (l.j * 8) l.cells))
