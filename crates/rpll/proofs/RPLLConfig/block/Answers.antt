-- Unlike slices, a refusal by the configuration's number, or what the loop wrote (Blocks).
use Rattle.std.proofs.Common.{refl, rules, get_or, pos, w32, SFits, ◌∙◌}
use Rattle.std.proofs.lemmas.Result.{err_from_is_err_and}
use borrow.Author.Tests.{eq-eqb, ne_eqb}
use Rattle.blocks.proofs.Refusals.{taken_number}
use Rattle.words.proofs.Reading.{read}
use Rattle.rpll.specs.Loops.{config_number}
use Rattle.rpll.proofs.Blocks.{start, turn, done, number_is, stamped, refused, unlike, taken}
use Rattle.rpll.proofs.RPLLConfig.block.Goals as goal
use Rattle.rpll.proofs.RPLLConfig.block.Goals.{then-there-xs-via-then-there-xs, then-there-xs-via-else-there-xs+then-xs-ys, then-there-xs-via-else-there-xs+else-xs-ys+then-ys-fs}

pub returns-then-there-xs : goal.returns-then-there-xs
returns-then-there-xs c =
    let a = c.args in
    let refuses = unlike a.self a.state.now a.there.now a.xs.now a.ys.now a.fs.now in
    elim c.then-there-xs.branch [
      | then-there-xs-via-then-there-xs w ↦ refuses (rw (ne_eqb _ _ w.if-there-xs.true) refl)
      | then-there-xs-via-else-there-xs+then-xs-ys w ↦ refuses (rw (eq-eqb _ _ w.if-there-xs.false, ne_eqb _ _ w.if-xs-ys.true) refl)
      | then-there-xs-via-else-there-xs+else-xs-ys+then-ys-fs w ↦
          refuses (rw (eq-eqb _ _ w.if-there-xs.false, eq-eqb _ _ w.if-xs-ys.false, ne_eqb _ _ w.if-ys-fs.true) refl)
    ]

pub returns-in_err-accepted : goal.returns-in_err-accepted
returns-in_err-accepted c =
    let p = err_from_is_err_and c.from_residual.result c.from_residual.ensures.1 in
    let a = c.args in
    let k = number_is a.self a.there.now a.xs.now a.ys.now a.fs.now c.if-there-xs.false c.if-xs-ys.false c.if-ys-fs.false in
    rw (p.1, p.2) (refused a.self a.state.now a.there.now a.xs.now a.ys.now a.fs.now _ (rw k c.in_err-accepted.ensures))

pub loop-i-init : goal.loop-i-init
loop-i-init c = start _ _ _ _ _ _ c.if-there-xs.false c.if-xs-ys.false c.if-ys-fs.false

pub update-requires : goal.update-requires
update-requires c = taken_number (config_number c.args.self) tt _ c.in_ok-accepted.ensures

pub loop-i-preserved : goal.loop-i-preserved
loop-i-preserved c =
    let a = c.args in
    let l = c.loop-i in
    let phase : SFits w32 c.estimate-now.result.phase = search rules in
    let frequency : SFits w32 c.estimate-now.result.frequency = search rules in
    let x : SFits w32 (get_or a.xs.now l.i (pos 0)) = search rules in
    let stamp = (rw (read w32 (get_or a.xs.now l.i (pos 0)) x.sfits) at c.then_some.ensures) ∙ stamped _ _ in
    rw (
      read w32 c.estimate-now.result.phase phase.sfits,
      read w32 c.estimate-now.result.frequency frequency.sfits,
      c.estimate-now.ensures,
    )
    (turn a.self a.state.now a.there.now a.xs.now l.ys l.fs l.state c.update.new.s l.i c.loop-i-test.true (rw stamp at c.update.ensures) l.invariant)

pub returns : goal.returns
returns c =
    let a = c.args in
    let k = number_is a.self a.there.now a.xs.now a.ys.now a.fs.now c.if-there-xs.false c.if-xs-ys.false c.if-ys-fs.false in
    taken a.self a.state.now a.there.now a.xs.now a.ys.now a.fs.now c.loop-i.state c.loop-i.ys c.loop-i.fs
    (k ∙ taken_number (config_number a.self) tt _ c.in_ok-accepted.ensures) (done _ _ _ _ _ _ _ _ c.loop-i-test.false c.loop-i.invariant)
