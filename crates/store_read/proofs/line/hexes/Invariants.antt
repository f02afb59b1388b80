-- What the nibbles from i on give, modulo 2^32.
use Rattle.store_read.proofs.Counting.{Sofar}
use Rattle.store_read.proofs.line.hexes.Given as goal

abbrev pub invariant-loop-i : goal.invariant-loop-i
invariant-loop-i l = Sofar l.field l.m l.i
