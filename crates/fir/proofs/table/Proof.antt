-- One test over the whole table: it is the row that the windows give (Taps). The total is computed.
use mathlib.Core.Path.{refl}
use Rattle.fir.specs.Ways.{ways, sum, total}
use Rattle.fir.proofs.Taps.{windows, row, entries, tens, table_is}
use Rattle.fir.proofs.table.Statement.{statement}
use Rattle.fir.proofs.table.Tie as tie

returns : tie.Need-returns
unfolding sum total windows row entries tens ways
returns c = (table_is _ refl, refl)

pub table_spec : {M : Type 1} → statement M
table_spec = tie.close (tie.spec returns)
