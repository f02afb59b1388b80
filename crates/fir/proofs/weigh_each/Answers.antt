-- Output k is weighed where input number countdown + 64 k stands (Standing).
use Rattle.std.proofs.Common.{◌+◌, ◌*◌, ◌<◌, rules, length, w32, ◌∙◌}
use Rattle.words.proofs.Reading.{read}
use Rattle.fir.proofs.Standing.{due, weighs_turn, weighs_end}
use Rattle.fir.proofs.weigh_each.Goals as goal

-- the input of the turn is there
stands : (c : goal.In-loop-k) → c.args.countdown + c.loop-k.k * 64 < length c.args.input.now
stands c = let a = c.args in due a.cells.now a.countdown a.input.now a.out.now a.need c.requires.0 c.requires.1 c.loop-k.k c.loop-k-test.true

pub overflow_mul-k : goal.overflow_mul-k
overflow_mul-k c = let s = stands c in search rules

pub overflow_add-countdown : goal.overflow_add-countdown
overflow_add-countdown c = let s = stands c in search rules

pub overflow_add-countdown-in-loop-k : goal.overflow_add-countdown-in-loop-k
overflow_add-countdown-in-loop-k c = let s = stands c in search rules

pub weigh-requires : goal.weigh-requires
weigh-requires c = let s = stands c in search rules

pub loop-k-preserved : goal.loop-k-preserved
loop-k-preserved c =
    let a = c.args in
    weighs_turn a.cells.now a.countdown a.input.now a.out.now a.need c.requires.0 c.requires.1 c.loop-k.k c.loop-k.out _ c.loop-k-test.true c.loop-k.invariant
    (read w32 c.weigh.result c.weigh.type_inv ∙ c.weigh.ensures)

pub returns : goal.returns
returns c =
    let a = c.args in
    weighs_end a.cells.now a.countdown a.input.now a.out.now a.need c.requires.0 c.requires.1 c.loop-k.k c.loop-k.out c.loop-k-test.false c.loop-k.invariant
