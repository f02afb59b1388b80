-- What is written, and what the rest would give, are the whole (blocks Turns).
use Rattle.blocks.proofs.Turns.{Going}
use Rattle.sections.specs.Sections.{chain_answer, chain_next}
use Rattle.sections.specs.Lent.{list_of}
use Rattle.sections.proofs.runs.eight.Given as goal

abbrev pub invariant-loop-i : goal.invariant-loop-i
invariant-loop-i l =
    Going (chain_answer 8 l.architecture (list_of l.a)) (chain_next 8 l.architecture (list_of l.a)) (list_of l.initial.cells) l.xs l.ys (list_of l.cells) l.i
