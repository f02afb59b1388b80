use Rattle.std.proofs.Common.{refl, arith, ◌≡◌, ◌+◌, pos, replicate, ◌∙◌, w64}
use lib.ListN.{length-replicate}
use Rattle.words.proofs.Reading.{read}
use Rattle.blocks.proofs.Turns.{start}
use Rattle.desk.proofs.Words.{cell_turn, cells_done}
use Rattle.desk.proofs.saved.cells_of.Goals as goal

pub loop-i-init : goal.loop-i-init
loop-i-init g c =
    let z : 0 + c.args.from ≡ c.args.from = omega arith in
    (omega arith, rw z (start _ _ _ _ _ (simp length-replicate refl)))

pub loop-i-preserved : goal.loop-i-preserved
loop-i-preserved g c =
    let l = c.loop-i in (
      omega (arith, c.loop-i-test.true),
      cell_turn c.args.line.now c.args.from (replicate g.row.N (pos 0)) l.cells l.i _ (simp length-replicate c.loop-i-test.true)
          (read w64 c.signed_at.result c.signed_at.type_inv ∙ c.signed_at.ensures) l.invariant.1,
    )

pub returns : goal.returns
returns g c =
    let l = c.loop-i in
    cells_done c.args.line.now c.args.from g.row.N (replicate g.row.N (pos 0)) l.cells l.i (simp length-replicate refl) c.loop-i-test.false l.invariant.1
