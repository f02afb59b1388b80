-- Refused by its number, or the run on lent arrays.
use Rattle.std.proofs.Common.{rules, ◌≡◌, arith}
use Rattle.std.specs.Prelude.{Err}
use Rattle.blocks.proofs.Refusals.{taken_number, taken_value}
use Rattle.sums.proofs.Lent.{Ready}
use Rattle.sums.proofs.Numbering.{block_accepts, block_enough, block_room}
use Rattle.shape.proofs.Blocks.{block_refuses, block_runs}
use Rattle.lent.specs.Reading.{counted}
use Rattle.lent.specs.Inner.Apart.{apart}
use Rattle.lent.proofs.state.LentCic.decimate_block.Goals as goal

pub returns-in_err-inputs : goal.returns-in_err-inputs
returns-in_err-inputs g c =
    let a = c.args in let r = c.in_err-inputs in
    let e : c.from_residual.result ≡ Err r.field-0.0 = search rules in
    rw e (block_refuses g.W.Word.ops (counted a.self.now a.integrators.now a.combs.now) a.input.now a.out.now _ r.field-0.0
    (rw c.numbers-found.ensures at r.ensures))

pub decimate_run-r-requires : goal.decimate_run-r-requires
decimate_run-r-requires g c =
    let a = c.args in let s = counted a.self.now a.integrators.now a.combs.now in
    let z = taken_number _ _ _ (rw c.numbers-found.ensures at c.in_ok-inputs.ensures) in
    let ready : Ready s.state =
    record { accepted = block_accepts s a.input.now a.out.now z; long8 = c.told-integrators; long64 = c.told-combs } in
    (search rules, (search rules, (ready, block_enough s a.input.now a.out.now z)))

pub returns : goal.returns
returns g c =
    let a = c.args in let s = counted a.self.now a.integrators.now a.combs.now in let r = c.decimate_run-r in
    let t = rw c.numbers-found.ensures at c.in_ok-inputs.ensures in let z = taken_number _ _ _ t in
    let ready : Ready s.state =
    record { accepted = block_accepts s a.input.now a.out.now z; long8 = c.told-integrators; long64 = c.told-combs } in
    block_runs g.W.Word.ops s a.input.now a.out.now z ready (apart r.result.numbers r.new.integrators r.new.combs) r.result.count r.new.out
    r.ensures c.written-written.result _ (rw c.numbers-found.ensures at c.written-written.ensures)
    (omega (arith, taken_value _ _ _ t, block_room s a.input.now a.out.now z))
