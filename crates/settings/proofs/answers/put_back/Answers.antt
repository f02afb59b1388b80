-- What was moved, or why it was not.
use Rattle.std.proofs.Common.{arith, ap, length}
use Rattle.settings.proofs.Answering.{moved-bytes, back_bad}
use Rattle.settings.proofs.answers.put_back.Goals as goal

pub returns-in-Ok : goal.returns-in-Ok
returns-in-Ok c = moved-bytes _ _ _ c.in-Ok.n c.in-Ok.ensures

pub put_bad-requires : goal.put_bad-requires
put_bad-requires c =
    let m = back_bad _ _ _ c.in-Err.bad c.in-Err.ensures in
    omega (arith, ap length m.0)

pub returns-in-Err : goal.returns-in-Err
returns-in-Err c =
    let m = back_bad _ _ _ c.in-Err.bad c.in-Err.ensures in
    rw (m.0, m.1) at c.put_bad.ensures
