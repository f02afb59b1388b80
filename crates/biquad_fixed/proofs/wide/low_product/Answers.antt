-- A word of 32 bits times a coefficient fits 64 bits.
use Rattle.std.proofs.Common.{w32, w64, pos, ◌*ℤ◌}
use mir.ValLaws.{to_z-of_z}
use Rattle.words.specs.Words.{word}
use Rattle.words.proofs.Reading.{read, word_fits}
use Rattle.words.proofs.Sizes.{low_product_fits}
use Rattle.biquad_fixed.proofs.wide.low_product.Goals as goal

pub overflow_mul-result : goal.overflow_mul-result
overflow_mul-result c =
    let y = c.args.y in let a = c.args.a in
    rw (
      read w64 c.low_of.result c.low_of.type_inv,
      c.low_of.ensures,
      to_z-of_z w64 y c.ranges.y,
      read w64 c.from.result c.from.type_inv,
      c.from.ensures,
      to_z-of_z w32 a c.ranges.a,
    )
    (low_product_fits (word w32 y) a (word_fits w32 y).fits c.ranges.a)

pub returns : goal.returns
returns c =
    let y = c.args.y in let a = c.args.a in
    rw (
      read w64 c.low_of.result c.low_of.type_inv,
      c.low_of.ensures,
      to_z-of_z w64 y c.ranges.y,
      read w64 c.from.result c.from.type_inv,
      c.from.ensures,
      to_z-of_z w32 a c.ranges.a,
      to_z-of_z w64 (pos (word w32 y) *ℤ a) (low_product_fits (word w32 y) a (word_fits w32 y).fits c.ranges.a),
    )
