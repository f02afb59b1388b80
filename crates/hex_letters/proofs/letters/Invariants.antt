-- The letters from place i on stand; those before it are those of what is left (Spelling).
use Rattle.std.proofs.Common.{◌≡◌, ◌++◌, drop, length}
use Rattle.hex_letters.specs.Letters.{letters_of}
use Rattle.hex_letters.proofs.letters.Given as goal

abbrev pub invariant-loop-i : goal.invariant-loop-i
invariant-loop-i g l = (length l.letters ≡ g.row.N) × (letters_of g.row.N l.n ≡ letters_of l.i l.left ++ drop l.i l.letters)
