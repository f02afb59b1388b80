-- An entry a turn.
use Rattle.std.proofs.Common.{arith, sym, ◌∙◌}
use Rattle.store.proofs.Recasts.{looking_on, looking_all, dither_here}
use Rattle.store.proofs.moving.has_dither.Goals as goal

pub returns-then-is_dither : goal.returns-then-is_dither
returns-then-is_dither c =
    dither_here c.args.entries.now c.loop-entry.entry-index _ (omega arith) c.loop-entry.invariant
    (sym c.is_dither.ensures ∙ c.if-is_dither.true)

pub loop-entry-preserved : goal.loop-entry-preserved
loop-entry-preserved c =
    looking_on c.args.entries.now c.loop-entry.entry-index _ (omega arith) c.loop-entry.invariant
    (sym c.is_dither.ensures ∙ c.if-is_dither.false)

pub returns : goal.returns
returns c = looking_all c.args.entries.now c.loop-entry.entry-index (omega arith) c.loop-entry.invariant
