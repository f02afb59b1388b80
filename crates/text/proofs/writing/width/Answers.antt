use Rattle.std.proofs.Common.{refl, ◌≡◌, arith, sym, ◌∙◌}
use Rattle.text.proofs.Spelling.{width_fits, width_on, width-most, width_is}
use Rattle.text.proofs.writing.width.Goals as goal

pub loop-w-init : goal.loop-w-init
loop-w-init c = (refl, λ z. absurd (omega (arith, z)))

pub returns-then-n-p : goal.returns-then-n-p
returns-then-n-p c =
    let l = c.loop-w in
    width_is c.args.n l.w l.p l.invariant.0 (omega (arith, l.auto.w)) (omega (arith, c.loop-w-test.true)) l.invariant.1 c.if-n-p.true

pub overflow_mul-p : goal.overflow_mul-p
overflow_mul-p c =
    let l = c.loop-w in
    record {
      fits = width_fits c.args.n l.w l.p l.invariant.0 (omega (arith, l.auto.w)) (omega (arith, c.loop-w-test.true))
          (λ e. omega (arith, c.loop-w-test.true, e));
    }

pub loop-w-preserved : goal.loop-w-preserved
loop-w-preserved c = let l = c.loop-w in width_on c.args.n l.w l.p l.invariant.0 (omega (arith, l.auto.w)) c.if-n-p.false

pub returns-then-n-p-2 : goal.returns-then-n-p-2
returns-then-n-p-2 c =
    let l = c.loop-w in
    let e : l.w ≡ 19 = omega (arith, l.auto.w-end, c.loop-w-test.false) in
    sym e ∙ width_is c.args.n l.w l.p l.invariant.0 (omega (arith, e)) (omega (arith, e)) l.invariant.1 c.if-n-p-2.true

pub returns-else-n-p-2 : goal.returns-else-n-p-2
returns-else-n-p-2 c =
    let l = c.loop-w in
    width-most c.args.n l.w l.p l.invariant.0 (omega (arith, l.auto.w)) (omega (arith, l.auto.w-end, c.loop-w-test.false)) c.if-n-p-2.false
    (c.ranges.n.fits)
