-- The rows that are left, and what is handed on to them.
use Rattle.std.proofs.Common.{◌≡◌, ◌++◌, ◌-◌, ◌*◌, length, take, drop}
use Rattle.sums.proofs.Rings.{swept, handed, stored, less_at_law}
use Rattle.lent.proofs.stretches.difference_ring.Given as goal

abbrev pub invariant-loop-j : goal.invariant-loop-j
invariant-loop-j g l =
    (length l.cells ≡ 64)
    × (handed (less_at_law g.W.Word.ops l.at) l.n l.fn.x l.fn.cells
    ≡ handed (less_at_law g.W.Word.ops l.at) (l.n - l.j) l.acc (drop (l.j * 8) l.cells))
    × (swept (stored l.at) (less_at_law g.W.Word.ops l.at) l.n l.fn.x l.fn.cells
    ≡ take (l.j * 8) l.cells ++ swept (stored l.at) (less_at_law g.W.Word.ops l.at) (l.n - l.j) l.acc (drop (l.j * 8) l.cells))
