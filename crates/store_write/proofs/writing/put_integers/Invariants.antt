-- The first i coefficients are put.
use Rattle.std.proofs.Common.{◌*◌, map, take}
use Rattle.std.specs.Int.{w32}
use Rattle.words.specs.Words.{wrap}
use Rattle.text.specs.Ranges.{texts}
use Rattle.store_write.specs.Writing.{Fielded}
use Rattle.store_write.proofs.writing.put_integers.Given as goal

abbrev pub invariant-loop-i : goal.invariant-loop-i
invariant-loop-i l = Fielded l.initial.out l.at (texts (take l.i (map (wrap w32) l.a))) (12 * l.i) l.next l.out
