-- The floor of a product is that of its low word's plus its high word's (Halves).
use Rattle.std.proofs.Common.{◌≡◌, w32, w64, pos, ◌^◌, ◌+ℤ◌, ◌*ℤ◌, ◌∙◌}
use lib.Signed.{mag_shr}
use mir.ValLaws.{to_z-of_z, sfits_le}
use Rattle.words.specs.Words.{word, wrap, floor_div}
use Rattle.words.proofs.Reading.{read}
use Rattle.biquad_fixed.proofs.Halves.{fed_is}
use Rattle.biquad_fixed.proofs.Wraps.{three}
use Rattle.biquad_fixed.proofs.wide.fed.Goals as goal

pub returns : goal.returns
returns c =
    let acc = c.args.acc in let y = c.args.y in let a = c.args.a in
    let p = c.low_product-low.result in let h = c.product-high.result in
    let low = floor_div p (2 ^ 32) in
    let sum : wrap w64 (acc +ℤ low +ℤ h) ≡ wrap w64 (acc +ℤ floor_div (pos (word w32 y) *ℤ a) (2 ^ 32) +ℤ floor_div y (2 ^ 32) *ℤ a) =
    rw (
      c.product-high.ensures,
      read w32 c.i64_high.result c.i64_high.type_inv,
      c.i64_high.ensures,
      c.low_product-low.ensures,
      to_z-of_z w64 y c.ranges.y,
      to_z-of_z w32 a c.ranges.a,
    ) in
    rw (read w64 p c.low_product-low.type_inv) (three acc low h c.ranges.acc (sfits_le {z = p} (mag_shr p (2 ^ 32)) (record { sfits = c.low_product-low.type_inv }))
    (record { sfits = c.product-high.type_inv }) ∙ sum ∙ fed_is acc y a)
