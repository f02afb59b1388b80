-- Each value is read back as its number; wraps inside the product and the difference fall away (Rounding).
use Rattle.std.proofs.Common.{◌≡◌, ◌-◌, ◌^◌, pos, ◌-ℤ◌, rules, w32, SFits, ap, ◌∙◌}
use lib.Signed.{shr_z, mag_shr}
use mir.ValLaws.{sfits_le}
use Rattle.words.specs.Words.{word, wrap}
use Rattle.words.proofs.Reading.{read, bits-word, wrap-fits}
use Rattle.words.proofs.Std.{sub_bits}
use Rattle.rpll.proofs.Rounding.{negative, miss}
use Rattle.rpll.proofs.phase_error.Goals as goal

pub returns : goal.returns
returns c =
    let a = c.args in
    let m = 2 ^ (a.shift - a.dt2) in
    let r = c.cast_signed-y_ref.result in
    let d = wrap w32 (r -ℤ a.y) in
    let n = c.wrapping_neg.result in
    let neg : n ≡ wrap w32 (pos 0 -ℤ a.x) = (rw (read w32 a.x c.ranges.x.sfits) at c.wrapping_neg.ensures) ∙ negative a.x c.ranges.x in
    let fits : SFits w32 n = search rules in
    let half : SFits w32 (shr_z d m) = sfits_le (mag_shr d m) (wrap-fits w32 (r -ℤ a.y)) in
    let u : c.cast_unsigned.result ≡ word w32 (wrap w32 (pos 0 -ℤ a.x)) =
    (rw (read w32 n fits.sfits) at c.cast_unsigned.ensures) ∙ bits-word w32 n fits ∙ ap (word w32) neg in
    rw (sub_bits w32 r a.y (search rules) c.ranges.y, read w32 (shr_z d m) half.sfits, c.cast_signed-y_ref.ensures)
    (miss a.f a.x a.y a.dt2 a.shift c.cast_unsigned.result c.requires.0 u)
