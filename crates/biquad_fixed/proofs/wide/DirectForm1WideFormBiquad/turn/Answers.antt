-- The sum is moved to 32 fraction bits, and the output is its high word.
use Rattle.std.proofs.Common.{◌≡◌, ap, ◌∙◌, ◌-◌, ◌*◌, ◌%◌, ◌^◌, ℤ, w32, w64, to_z, of_z}
use mir.ValLaws.{to_z-of_z}
use Rattle.words.specs.Words.{floor_div}
use Rattle.words.proofs.Reading.{read}
use Rattle.words.proofs.Std.{shl_bits}
use Rattle.biquad_fixed.specs.Forms.{aligned, wide_sum, wide_out}
use Rattle.biquad_fixed.proofs.wide.DirectForm1WideFormBiquad.turn.Goals as goal

pub returns : goal.returns
returns c =
    let a = c.args in let s = a.self.now in
    let x = to_z-of_z w32 a.x0 c.ranges.x0 in
    let moved : to_z w64 (of_z w64 c.sum.result * 2 ^ (32 - a.c.f) % 18446744073709551616) ≡ aligned a.c (wide_sum a.c s a.x0) =
    shl_bits w64 c.sum.result (2 ^ (32 - a.c.f)) (record { sfits = c.sum.type_inv })
    ∙ ap (aligned a.c) (c.sum.ensures ∙ ap (wide_sum a.c s) x) in
    let y : to_z w32 (of_z w32 c.i64_high-y.result) ≡ wide_out a.c s a.x0 =
    read w32 c.i64_high-y.result c.i64_high-y.type_inv ∙ c.i64_high-y.ensures ∙ ap (λ (z : ℤ). floor_div z (2 ^ 32)) moved in
    (y, λ i. record { x1 = x i; x2 = read w32 s.x1 c.self-1.given i; y1 = moved i; y2 = read w64 s.y1 c.self-2-1.given i })
