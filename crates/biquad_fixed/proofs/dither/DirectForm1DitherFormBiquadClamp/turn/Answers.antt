-- The free step's promise, its output limited; the error is the free step's.
use Rattle.std.proofs.Common.{◌≡◌, ap, ◌∙◌, w32, to_z, of_z}
use mir.ValLaws.{to_z-of_z}
use Rattle.words.proofs.Reading.{read}
use Rattle.biquad_fixed.specs.Forms.{dither_out, dither_next, dither_held, limited}
use Rattle.biquad_fixed.proofs.dither.DirectForm1DitherFormBiquadClamp.turn.Goals as goal

pub returns : goal.returns
returns c =
    let a = c.args in let s = a.self.now in let t = c.turn-free.new.self in
    let e0 : c.turn-free.result ≡ dither_out a.c.coeff s a.x0 = rw (to_z-of_z w32 a.x0 c.ranges.x0) at c.turn-free.ensures.0 in
    let e1 : t ≡ dither_next a.c.coeff s a.x0 = rw (to_z-of_z w32 a.x0 c.ranges.x0) at c.turn-free.ensures.1 in
    let y : to_z w32 (of_z w32 c.limit-y.result) ≡ dither_held a.c s a.x0 =
    read w32 c.limit-y.result c.limit-y.type_inv ∙ c.limit-y.ensures
    ∙ ap (limited a.c) (read w32 c.turn-free.result c.turn-free.type_inv ∙ e0) in
    (y, λ i. record { x1 = (e1 i).x1; x2 = (e1 i).x2; y1 = y i; y2 = (e1 i).y2; e = (e1 i).e })
