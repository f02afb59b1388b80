-- The digits from the last to the first: those from i on stand in the buffer.
use Rattle.text.specs.Numbers.{decimal_of}
use Rattle.text.proofs.Spelling.{Filling}
use Rattle.text.proofs.writing.put_decimal.Given as goal

abbrev pub invariant-loop-i : goal.invariant-loop-i
invariant-loop-i l = Filling l.initial.out (decimal_of l.n) l.at l.out l.left l.i
