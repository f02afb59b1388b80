use Rattle.std.proofs.Common.{◌≡◌, ◌%◌, sym, ◌∙◌}
use Rattle.adapters.specs.Adapters.{code_of, retired}
use Rattle.wdf.proofs.Retired.{held, held_on, held_none}
use Rattle.wdf.proofs.filter.has_retired.Goals as goal

pub returns-then-is_retired : goal.returns-then-is_retired
returns-then-is_retired c =
    let l = c.loop in
    let t : retired (code_of (l.left % 16)) ≡ _ = rw c.from.ensures at (sym c.is_retired.ensures ∙ c.if-is_retired.true) in
    sym (sym l.invariant ∙ held c.args.sections l.counter l.left c.loop-test.true t)

pub loop-preserved : goal.loop-preserved
loop-preserved c =
    let l = c.loop in
    let t : retired (code_of (l.left % 16)) ≡ _ = rw c.from.ensures at (sym c.is_retired.ensures ∙ c.if-is_retired.false) in
    held_on c.args.sections l.counter l.left c.loop-test.true t ∙ l.invariant

pub returns : goal.returns
returns c = let l = c.loop in sym (sym l.invariant ∙ held_none c.args.sections l.counter l.left c.loop-test.false)
