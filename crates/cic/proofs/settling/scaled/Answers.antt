use Rattle.std.proofs.Common.{◌≡◌, ℕ, ◌+◌, ◌*◌, ◌^◌, sym, ap, ◌∙◌, arith, add-one}
use native.Mathlib.Nat.{pow-zero, pow-suc, one-mul, mul_comm}
use Rattle.sums.specs.Ops.{times}
use Rattle.cic.proofs.settling.scaled.Goals as goal

once : (by : ℕ) → by ^ 1 ≡ by
once by = pow-suc by 0 ∙ ap (λ k. k * by) (pow-zero by) ∙ one-mul by

more : (by i : ℕ) → by * by ^ i ≡ by ^ (i + 1)
more by i = mul_comm by (by ^ i) ∙ sym (pow-suc by i) ∙ ap (λ k. by ^ k) (sym (add-one i))

pub loop-turn-init : goal.loop-turn-init
loop-turn-init g c = rw (once c.args.by) c.times-r.ensures

pub loop-turn-preserved : goal.loop-turn-preserved
loop-turn-preserved g c =
    let l = c.loop-turn in let a = c.args in let o = g.W.Word.ops in
    c.times-r-in-loop-turn.ensures ∙ ap (times o a.by) l.invariant ∙ g.met.W.Word.scales a.by (a.by ^ l._turn) a.x
    ∙ ap (λ k. times o k a.x) (more a.by l._turn)

pub returns : goal.returns
returns g c =
    let l = c.loop-turn in let a = c.args in
    let low = l.auto._turn-end c.requires in
    let e : l._turn ≡ a.n = omega (arith, low, c.loop-turn-test.false) in l.invariant ∙ ap (λ k. times g.W.Word.ops (a.by ^ k) a.x) e
