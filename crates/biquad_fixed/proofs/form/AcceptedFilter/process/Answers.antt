-- The step of the state; the coefficients stay.
use Rattle.std.proofs.Common.{w32, ◌∙◌, ap, ℤ}
use Rattle.std.proofs.Math.Nat.{ℕ_set}
use mir.ValLaws.{to_z-of_z}
use Rattle.words.proofs.Reading.{read}
use Rattle.biquad_fixed.proofs.form.AcceptedFilter.process.Goals as goal

pub returns : goal.returns
returns g c =
    let s = c.args.self.now in
    let x = to_z-of_z w32 c.args.x c.ranges.x in
    let after = c.turn.ensures.1 ∙ ap (λ (z : ℤ). g.S.Form.after s.c s.state z) x in (
      read w32 c.turn.result c.turn.type_inv ∙ c.turn.ensures.0 ∙ ap (λ (z : ℤ). g.S.Form.gives s.c s.state z) x,
      λ i. record {
        c = s.c;
        state = after i;
        accepted = ℕ_set _ _ c.self-1.given.0 s.accepted i;
      },
    )
