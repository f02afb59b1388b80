use Rattle.std.proofs.Common.{refl, replicate, arith}
use lib.ListN.{length-replicate, length-set}
use Rattle.hex_letters.proofs.Spelling.{letter_on, letters_end, letters-start}
use Rattle.hex_letters.proofs.letters.Goals as goal

pub loop-i-init : goal.loop-i-init
loop-i-init g c = (simp length-replicate refl, letters-start g.row.N c.args.n (replicate g.row.N 0) (simp length-replicate refl))

pub loop-i-preserved : goal.loop-i-preserved
loop-i-preserved g c =
    let l = c.loop-i in (
      simp length-set l.invariant.0,
      letter_on _ l.letters l.left l.i _ c.loop-i-test.true (omega (arith, l.auto, l.invariant.0)) c.last_letter.ensures l.invariant.1,
    )

pub returns : goal.returns
returns g c = let l = c.loop-i in letters_end _ _ _ _ c.loop-i-test.false l.invariant.1
