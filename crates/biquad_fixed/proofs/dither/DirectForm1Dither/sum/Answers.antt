-- Wraps inside a wrapped sum fall away.
use Rattle.std.proofs.Common.{◌≡◌, ℤ, pos, ◌+ℤ◌, ◌*ℤ◌, ap, sym, ◌∙◌, w32, w64}
use mir.ValLaws.{to_z-of_z}
use Rattle.words.specs.Words.{wrap}
use Rattle.words.proofs.Reading.{read}
use Rattle.words.proofs.Sums.{wrap_left, wrap_right}
use Rattle.biquad_fixed.specs.Forms.{forward, dither_sum}
use Rattle.biquad_fixed.proofs.Wraps.{four}
use Rattle.biquad_fixed.proofs.dither.DirectForm1Dither.sum.Goals as goal

pub returns : goal.returns
unfolding dither_sum
returns c =
    let a = c.args in let s = a.self in let g = c.struct_told-1.given in let n = c.struct_told-3-1.given in
    let e = c.from.result in let i = c.inputs-inputs.result in let p = c.product.result in let q = c.product-2.result in
    let inputs = forward a.c a.x0 s.x1 s.x2 in let outputs = a.c.a1 *ℤ s.y1 +ℤ a.c.a2 *ℤ s.y2 in
    let parts : wrap w64 (e +ℤ (i +ℤ (p +ℤ q))) ≡ wrap w64 (pos s.e +ℤ (wrap w64 inputs +ℤ outputs)) =
    rw (
      c.from.ensures,
      c.inputs-inputs.ensures,
      c.product.ensures,
      c.product-2.ensures,
      to_z-of_z w32 a.x0 c.ranges.x0,
      read w32 s.x1 g.0.1,
      read w32 s.x2 g.1.0.1,
      read w32 s.y1 g.1.1.0.1,
      read w32 s.y2 g.1.1.1.0.1,
      read w32 a.c.a1 n.1.1.1.0.1,
      read w32 a.c.a2 n.1.1.1.1.0.1,
    ) in
    four e i p q (record { sfits = c.from.type_inv }) (record { sfits = c.inputs-inputs.type_inv }) (record { sfits = c.product.type_inv })
    (record { sfits = c.product-2.type_inv })
    ∙ parts
    ∙ outer (pos s.e) inputs outputs
  where
    outer : (b x y : ℤ) → wrap w64 (b +ℤ (wrap w64 x +ℤ y)) ≡ wrap w64 (b +ℤ (x +ℤ y))
    outer b x y = sym (wrap_right w64 b (wrap w64 x +ℤ y)) ∙ ap (λ (z : ℤ). wrap w64 (b +ℤ z)) (wrap_left w64 x y) ∙ wrap_right w64 b (x +ℤ y)
