-- Each cell is its word (Words, blocks Turns).
use Rattle.std.proofs.Common.{◌≤◌, ◌+◌, pos, replicate}
use Rattle.blocks.proofs.Turns.{Going}
use Rattle.desk.proofs.Words.{cell_out, cell_next}
use Rattle.desk.proofs.saved.cells_of.Given as goal

abbrev pub invariant-loop-i : goal.invariant-loop-i
invariant-loop-i g l =
    (l.i ≤ g.row.N) × Going (cell_out l.line) cell_next l.from (replicate g.row.N (pos 0)) l.cells (l.i + l.from) l.i
