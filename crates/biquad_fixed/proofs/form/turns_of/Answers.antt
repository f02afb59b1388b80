-- The steps of the state beside its coefficients are the state's.
use Rattle.std.proofs.Common.{refl, ◌∙◌, ℤ}
use Rattle.biquad_fixed.specs.declared.form.Accepted.{Accepted}
use Rattle.blocks.proofs.Turns.{fed-ran}
use Rattle.blocks.proofs.Carried.{carried_ends, carried_scan}
use Rattle.biquad_fixed.proofs.form.turns_of.Goals as goal

pub returns : goal.returns
returns g c =
    let a = c.args in let f = g.S.Form in
    let T = Accepted g.row.C.Denot g.row.S.Denot f in
    let gives : T → ℤ → ℤ = λ t x. f.gives t.c t.state x in
    let after : T → ℤ → T = λ t x. record { c = t.c; state = f.after t.c t.state x; accepted = t.accepted } in
    let beside : g.row.S.Denot → T = λ s. record { c = a.c; state = s; accepted = c.going-2-1.given.0 } in
    let ran = fed-ran gives after (beside a.state.now) a.xs.now a.ys.now c.run.new.filter c.run.new.ys c.requires.alike c.run.ensures in
    let whole = ran.0 ∙ carried_ends (f.gives a.c) (f.after a.c) gives after beside (λ s x. refl) (λ s x. refl) a.state.now a.xs.now in (
      (λ i. (whole i).state),
      ran.1 ∙ carried_scan (f.gives a.c) (f.after a.c) gives after beside (λ s x. refl) (λ s x. refl) a.state.now a.xs.now,
    )
