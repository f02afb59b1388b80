-- The step takes a block of one input; whether it gives is the countdown's test (Turns).
use Rattle.std.proofs.Common.{w32}
use mir.ValLaws.{to_z-of_z}
use Rattle.words.proofs.Reading.{read}
use Rattle.fir.specs.Weights.{taken}
use Rattle.fir.specs.Inner.{kept}
use Rattle.fir.proofs.Turns.{step_waits, step_gives}
use Rattle.fir.proofs.Fir.decimate.Goals as goal

pub returns-then-self-ne0 : goal.returns-then-self-ne0
unfolding kept
returns-then-self-ne0 c =
    let s = c.args.self.now in
    rw (c.keep-self.ensures, to_z-of_z w32 c.args.x c.ranges.x) (step_waits (taken s.cells c.args.x) s.countdown c.if-self-ne0.true)

pub returns : goal.returns
unfolding kept
returns c =
    let s = c.args.self.now in
    rw (read w32 c.weigh-y.result c.weigh-y.type_inv, c.weigh-y.ensures, c.keep-self.ensures, to_z-of_z w32 c.args.x c.ranges.x)
    (step_gives (taken s.cells c.args.x) s.countdown c.if-self-ne0.false)
