-- The line and the room behind it keep their lengths.
use Rattle.std.proofs.Common.{◌≡◌, ◌≤◌, length}
use Rattle.coefficients.proofs.answer_input.Given as goal

abbrev pub invariant-loop-turns : goal.invariant-loop-turns
invariant-loop-turns g l =
    (l.p.len ≤ 64) × (length l.line ≡ 64) × (length l.line ≡ length l.initial.line) × (length l.buffer ≡ length l.initial.buffer)
    × (length l.out ≡ length l.initial.out)

abbrev pub decreases-loop-turns : goal.decreases-loop-turns
decreases-loop-turns g l = l.turns
