use Rattle.fir.proofs.Standing.{WeighsEach}
use Rattle.fir.proofs.weigh_each.Given as goal

abbrev pub invariant-loop-k : goal.invariant-loop-k
invariant-loop-k l = WeighsEach l.cells l.countdown l.input l.initial.out l.k l.out
