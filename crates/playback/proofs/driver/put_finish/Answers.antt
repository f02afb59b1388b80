-- By whether the replay goes on, and whether a line was begun.
use native.Mathlib.Omega.{arith}
use borrow.Author.Rules.{rules}
use Rattle.text.proofs.Putting.{wrote-same, nothing}
use Rattle.playback.proofs.Turning.{finish_stopped, finish_end, finish_bad}
use Rattle.playback.proofs.driver.put_finish.Goals as goal

pub returns-then-not-going : goal.returns-then-not-going
returns-then-not-going c = let a = c.args in wrote-same (finish_stopped a.r c.if-not-going.true)
    (nothing a.out.now a.at)

pub put_end-requires : goal.put_end-requires
put_end-requires c =
    let a = c.args in
    omega (arith, c.requires c.if-not-going.false)

pub returns-then-r-eq0 : goal.returns-then-r-eq0
returns-then-r-eq0 c =
    let a = c.args in wrote-same (finish_end a.r c.if-not-going.false c.if-r-eq0.true)
    c.put_end.ensures.0

pub put_bad-requires : goal.put_bad-requires
put_bad-requires c =
    let a = c.args in
    omega (arith, c.requires c.if-not-going.false)

pub returns : goal.returns
returns c =
    let a = c.args in
    wrote-same (finish_bad a.r c.count_up.result c.if-not-going.false
    (search rules) c.if-r-eq0.false c.count_up.ensures) c.put_bad.ensures.0
