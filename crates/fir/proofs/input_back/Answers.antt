-- A number n below the inputs taken is one of them, counted from their end; else it is one kept before (Standing).
use Rattle.std.proofs.Common.{◌-◌, pos, get_or, rules, w32}
use Rattle.words.proofs.Reading.{read}
use Rattle.fir.proofs.Standing.{upto_new, upto_old}
use Rattle.fir.proofs.input_back.Goals as goal

pub returns-then-n-taken : goal.returns-then-n-taken
returns-then-n-taken c =
    let a = c.args in
    rw (read w32 (get_or a.input.now (a.taken - 1 - a.n) (pos 0)) (search rules)) (upto_new a.cells.now a.input.now a.taken a.n c.requires.0 c.requires.1 c.if-n-taken.true)

pub returns : goal.returns
returns c =
    let a = c.args in
    rw (read w32 (get_or a.cells.now (a.n - a.taken) (pos 0)) (search rules)) (upto_old a.cells.now a.input.now a.taken a.n c.requires.0 c.requires.1 c.if-n-taken.false)
