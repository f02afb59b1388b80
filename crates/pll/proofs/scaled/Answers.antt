-- A word times a word of 32 bits fits 64 (low_fits), so the shift is a floor; the two halves' products make up the whole (Splitting).
use Rattle.std.proofs.Common.{◌^◌, pos, ◌*ℤ◌, ap, rules, w32, w64, SFits}
use lib.Signed.{shr_z, mag_shr}
use mir.ValLaws.{sfits_le}
use Rattle.words.specs.Words.{word, wrap}
use Rattle.words.proofs.Reading.{read}
use Rattle.words.proofs.Std.{add_bits}
use Rattle.pll.proofs.Sums.{low_fits}
use Rattle.pll.proofs.Splitting.{split_whole}
use Rattle.pll.proofs.scaled.Goals as goal

pub returns : goal.returns
returns c =
    let a = c.args.a1 in
    let f = c.args.f0 in
    let m = a *ℤ pos (word w32 f) in
    let fits = low_fits a f c.ranges.a1 in
    let whole : SFits w64 (shr_z f (2 ^ 32)) = sfits_le (mag_shr f (2 ^ 32)) c.ranges.f0 in
    let high : SFits w32 (shr_z f (2 ^ 32)) = search rules in
    rw (
      read w64 c.from.result c.from.type_inv,
      c.from.ensures,
      read w64 c.from-2.result c.from-2.type_inv,
      c.from-2.ensures,
      c.i64_as_u32.ensures,
      read w32 a c.ranges.a1.sfits,
      read w64 f c.ranges.f0.sfits,
      read w64 m fits.sfits,
      add_bits w64 c.product.result (shr_z m (2 ^ 32)) (search rules) (sfits_le (mag_shr m (2 ^ 32)) fits),
      c.product.ensures,
      read w32 a c.ranges.a1.sfits,
      read w64 f c.ranges.f0.sfits,
      read w64 (shr_z f (2 ^ 32)) whole.sfits,
      read w32 (shr_z f (2 ^ 32)) high.sfits,
    )
    (ap (wrap w64) (split_whole a f))
