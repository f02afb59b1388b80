-- There is room, so the part is taken.
use Rattle.std.proofs.Common.{sym, ◌∙◌, arith}
use Rattle.playback.proofs.Feeding.{feed_takes, never_short}
use Rattle.replay.proofs.take.Goals as goal

pub returns-in-Ok : goal.returns-in-Ok
returns-in-Ok c =
    let a = c.args in let f = c.feed.ensures in
    feed_takes a.r.now a.part.now a.out.now c.in-Ok.n c.feed.new.self c.feed.new.out (omega (arith, c.requires))
    (f.0, sym c.in-Ok.is ∙ f.1, f.2)

pub returns-in-Err : goal.returns-in-Err
returns-in-Err c =
    let a = c.args in let f = c.feed.ensures in
    absurd (never_short a.r.now a.part.now a.out.now _ c.feed.new.self c.feed.new.out (omega (arith, c.requires))
    (f.0, sym c.in-Err.is ∙ f.1, f.2))
