-- A line of one cell: the store is the push. A longer line has moved one place down as far as i; the last store completes the push.
use Rattle.std.proofs.Common.{◌≡◌, ◌<◌, ◌≤◌, ◌-◌, ℕ, List, get_or, length, take, drop, refl, sym, ap, ◌∙◌, arith, add-zero}
use Rattle.std.proofs.lemmas.List.{get_or_default}
use Rattle.sums.specs.Ops.{Ops}
use Rattle.sums.specs.Machine.{less}
use Rattle.sums.proofs.Loops.{shift_start, shift_turn, shift_end}
use Rattle.sums.proofs.Lines.{less_at}
use Rattle.lent.proofs.cascade.comb.Goals as goal

-- x less the oldest cell, read under any default, is what the line gives
less_oldest : {A : Type 0} (o : Ops A) (b M : ℕ) (l : List A) (x d : A) → 1 ≤ M → b < length l → o.sub x (get_or l b d) ≡ less o (take M (drop b l)) x
less_oldest o b M l x d h k = ap (o.sub x) (get_or_default l b d o.nil k) ∙ sym (less_at o b M l x h)

pub returns-then-m-eq1 : goal.returns-then-m-eq1
returns-then-m-eq1 g c =
    let a = c.args in let o = g.W.Word.ops in let d = c.index-cells-base.result in
    let end = shift_end a.cells.now a.base 0 d a.m a.cells.now a.x (omega arith) (omega (arith, c.told-cells))
    (shift_start a.cells.now a.base) in
    record {
      cells = rw add-zero at end;
      last = c.sub.ensures ∙ less_oldest o a.base a.m a.cells.now a.x d c.requires.0 (omega (arith, c.told-cells));
    }

pub loop-i-init : goal.loop-i-init
loop-i-init g c = shift_start c.args.cells.now c.args.base

pub loop-i-preserved : goal.loop-i-preserved
loop-i-preserved g c =
    let a = c.args in let l = c.loop-i in
    shift_turn a.cells.now a.base l.i c.index-cells-base-in-loop-i.result l.cells _ (omega (arith, c.told-cells)) l.invariant refl

pub returns : goal.returns
returns g c =
    let a = c.args in let l = c.loop-i in let o = g.W.Word.ops in let d = c.index-cells-base-2.result in
    let at : l.i ≡ a.m - 1 = omega arith in
    let end = shift_end a.cells.now a.base l.i d a.m l.cells a.x (omega arith) (omega (arith, c.told-cells)) l.invariant in
    record {
      cells = rw (← at) end;
      last = c.sub-2.ensures ∙ less_oldest o a.base a.m a.cells.now a.x d c.requires.0 (omega (arith, c.told-cells));
    }
