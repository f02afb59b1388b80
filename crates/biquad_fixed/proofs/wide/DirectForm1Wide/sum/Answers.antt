-- Wraps inside a wrapped sum fall away (Wraps).
use Rattle.std.proofs.Common.{w32, w64, ◌^◌, ◌*ℤ◌}
use mir.ValLaws.{to_z-of_z}
use Rattle.words.specs.Words.{floor_div}
use Rattle.words.proofs.Reading.{read}
use Rattle.biquad_fixed.specs.Forms.{forward, wide_sum}
use Rattle.biquad_fixed.proofs.Wraps.{wrap_inner}
use Rattle.biquad_fixed.proofs.wide.DirectForm1Wide.sum.Goals as goal

pub returns : goal.returns
unfolding wide_sum
returns c =
    let a = c.args in let s = a.self in let g = c.struct_told-1.given in let k = c.struct_told-4-1.given in
    rw (
      read w64 c.fed-2.result c.fed-2.type_inv,
      c.fed-2.ensures,
      read w64 c.fed.result c.fed.type_inv,
      c.fed.ensures,
      read w64 c.inputs.result c.inputs.type_inv,
      c.inputs.ensures,
      to_z-of_z w32 a.x0 c.ranges.x0,
      read w32 s.x1 g.0.1,
      read w32 s.x2 g.1.0.1,
      read w64 s.y1 g.1.1.0.1,
      read w64 s.y2 g.1.1.1.0.1,
      read w32 a.c.a1 k.1.1.1.0.1,
      read w32 a.c.a2 k.1.1.1.1.0.1,
    )
    (wrap_inner w64 (forward a.c a.x0 s.x1 s.x2) (floor_div (s.y1 *ℤ a.c.a1) (2 ^ 32)) (floor_div (s.y2 *ℤ a.c.a2) (2 ^ 32)))
