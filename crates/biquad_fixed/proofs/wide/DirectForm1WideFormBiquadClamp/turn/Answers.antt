-- The free step's promise, its output limited and put over the high word.
use Rattle.std.proofs.Common.{◌≡◌, ap, ◌∙◌, w32, w64, to_z, of_z}
use mir.ValLaws.{to_z-of_z}
use Rattle.words.proofs.Reading.{read}
use Rattle.biquad_fixed.specs.Forms.{wide_out, wide_next, wide_held, limited, overwritten}
use Rattle.biquad_fixed.specs.declared.wide.DirectForm1Wide.{DirectForm1Wide}
use Rattle.biquad_fixed.proofs.wide.DirectForm1WideFormBiquadClamp.turn.Goals as goal

pub returns : goal.returns
returns c =
    let a = c.args in let s = a.self.now in let t = c.turn-free.new.self in
    let e0 : c.turn-free.result ≡ wide_out a.c.coeff s a.x0 = rw (to_z-of_z w32 a.x0 c.ranges.x0) at c.turn-free.ensures.0 in
    let e1 : t ≡ wide_next a.c.coeff s a.x0 = rw (to_z-of_z w32 a.x0 c.ranges.x0) at c.turn-free.ensures.1 in
    let y : to_z w32 (of_z w32 c.limit-y.result) ≡ wide_held a.c s a.x0 =
    read w32 c.limit-y.result c.limit-y.type_inv ∙ c.limit-y.ensures
    ∙ ap (limited a.c) (read w32 c.turn-free.result c.turn-free.type_inv ∙ e0) in
    let o : to_z w64 (of_z w64 c.overwrite-self.result) ≡ overwritten (wide_next a.c.coeff s a.x0).y1 (wide_held a.c s a.x0) =
    read w64 c.overwrite-self.result c.overwrite-self.type_inv ∙ c.overwrite-self.ensures
    ∙ (λ i. overwritten ((read w64 t.y1 c.overwrite-arg-1.given ∙ ap (λ (q : DirectForm1Wide). q.y1) e1) i) (y i)) in
    (y, λ i. record { x1 = (e1 i).x1; x2 = (e1 i).x2; y1 = o i; y2 = (e1 i).y2 })
