-- An entry a turn.
use Rattle.std.proofs.Common.{◌≡◌, length, arith, rules, length-set, ◌∙◌}
use Rattle.entries.proofs.Arrays.{unmapped}
use Rattle.store.proofs.Recasts.{recasting_none, recasting_on, recasting_all}
use Rattle.store.proofs.moving.recast_all.Goals as goal

pub loop-entry-init : goal.loop-entry-init
loop-entry-init c =
    let l : length c.args.settings.entries ≡ 64 = search (unmapped, rules) in
    recasting_none c.args.version c.args.settings.entries l

pub loop-entry-preserved : goal.loop-entry-preserved
loop-entry-preserved c =
    let g = c.loop-entry.invariant in
    let s = g.same in
    recasting_on c.args.version c.args.settings.entries c.loop-entry.entry-items c.loop-entry.entry-index _ c.recast.result (omega arith) g
    c.recast.ensures (length-set c.loop-entry.entry-items c.loop-entry.entry-index c.recast.result ∙ s)

pub returns : goal.returns
returns c =
    let g = c.loop-entry.invariant in
    let s = g.same in
    rw (recasting_all c.args.version c.args.settings.entries c.loop-entry.entry-items c.loop-entry.entry-index (omega arith) g)
