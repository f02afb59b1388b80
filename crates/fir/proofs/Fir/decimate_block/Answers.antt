-- The refusal is the test's; else the parts are what the functions called ensure (Turns).
use Rattle.std.proofs.Common.{length, rules, refl}
use Rattle.fir.proofs.Standing.{due_small, due_in_law, reach, reaches}
use Rattle.fir.proofs.Turns.{refuses, writes}
use Rattle.fir.proofs.Fir.decimate_block.Goals as goal

pub returns-then-out-need : goal.returns-then-out-need
returns-then-out-need c = let a = c.args in refuses a.self.now a.input.now a.out.now (rw c.low_rate-need.ensures at c.if-out-need.true)

pub overflow_mul-self : goal.overflow_mul-self
overflow_mul-self c = let h = reach c.args.self.now.countdown (length c.args.input.now) c.low_rate-need.result c.low_rate-need.ensures in search rules

pub overflow_add-self : goal.overflow_add-self
overflow_add-self c = let h = reach c.args.self.now.countdown (length c.args.input.now) c.low_rate-need.result c.low_rate-need.ensures in search rules

pub overflow_sub-self : goal.overflow_sub-self
overflow_sub-self c = rw c.low_rate-need.ensures (reaches c.args.self.now.countdown (length c.args.input.now))

pub overflow_cast-self : goal.overflow_cast-self
overflow_cast-self c =
    let s = c.args.self.now in
    record { fits = rw (c.low_rate-need.ensures, ← due_in_law s.countdown (length c.args.input.now)) (due_small s.countdown (length c.args.input.now) (search rules)) }

pub returns : goal.returns
returns c =
    let a = c.args in
    writes a.self.now a.input.now a.out.now c.low_rate-need.result _ c.keep-self.result c.weigh_each.new.out c.if-out-need.false c.low_rate-need.ensures refl
    c.keep-self.ensures c.weigh_each.ensures
