-- The digits so far, and what is left of the word.
use Rattle.store_write.proofs.Putting.{Hexing}
use Rattle.store_write.proofs.writing.put_hexes.Given as goal

abbrev pub invariant-loop-i : goal.invariant-loop-i
invariant-loop-i l = Hexing l.initial.out l.at l.k l.m l.out l.next l.left l._i
