-- Wraps inside a wrapped sum fall away.
use Rattle.std.proofs.Common.{◌≡◌, ◌+ℤ◌, ◌∙◌, w32, w64}
use mir.ValLaws.{to_z-of_z}
use Rattle.words.specs.Words.{wrap}
use Rattle.words.proofs.Reading.{read}
use Rattle.biquad_fixed.specs.Forms.{forward}
use Rattle.biquad_fixed.proofs.Wraps.{three}
use Rattle.biquad_fixed.proofs.coefficients.Biquad.inputs.Goals as goal

pub returns : goal.returns
returns c =
    let a = c.args in let b = a.self in let g = c.struct_told-1.given in
    let p = c.product.result in let q = c.product-2.result in let r = c.product-3.result in
    let sum : wrap w64 (p +ℤ q +ℤ r) ≡ wrap w64 (forward b a.x0 a.x1 a.x2) =
    rw (
      c.product.ensures,
      c.product-2.ensures,
      c.product-3.ensures,
      read w32 b.b0 g.0.1,
      read w32 b.b1 g.1.0.1,
      read w32 b.b2 g.1.1.0.1,
      to_z-of_z w32 a.x0 c.ranges.x0,
      to_z-of_z w32 a.x1 c.ranges.x1,
      to_z-of_z w32 a.x2 c.ranges.x2,
    ) in
    three p q r (record { sfits = c.product.type_inv }) (record { sfits = c.product-2.type_inv }) (record { sfits = c.product-3.type_inv }) ∙ sum
