-- The sum, moved to 32 fraction bits, has its quotient in the high word and what is left in the low one (Shifts).
use Rattle.std.proofs.Common.{◌≡◌, ap, ◌∙◌, ℕ, ◌-◌, ◌*◌, ◌/◌, ◌%◌, ◌^◌, ℤ, w32, w64, to_z, of_z}
use mir.ValLaws.{to_z-of_z}
use Rattle.words.specs.Words.{word, floor_div}
use Rattle.words.proofs.Reading.{read}
use Rattle.words.proofs.Std.{shl_bits}
use Rattle.biquad_fixed.specs.Forms.{aligned, dither_sum, dither_out, dither_error}
use Rattle.biquad_fixed.proofs.Shifts.{output, error}
use Rattle.biquad_fixed.proofs.dither.DirectForm1DitherFormBiquad.turn.Goals as goal

pub returns : goal.returns
returns c =
    let a = c.args in let s = a.self.now in
    let x = to_z-of_z w32 a.x0 c.ranges.x0 in
    let moved : to_z w64 (of_z w64 c.sum.result * 2 ^ (32 - a.c.f) % 18446744073709551616) ≡ aligned a.c (dither_sum a.c s a.x0) =
    shl_bits w64 c.sum.result (2 ^ (32 - a.c.f)) (record { sfits = c.sum.type_inv })
    ∙ ap (aligned a.c) (c.sum.ensures ∙ ap (dither_sum a.c s) x) in
    let y : to_z w32 (of_z w32 c.i64_high-y.result) ≡ dither_out a.c s a.x0 =
    read w32 c.i64_high-y.result c.i64_high-y.type_inv ∙ c.i64_high-y.ensures ∙ ap (λ (z : ℤ). floor_div z (2 ^ 32)) moved
    ∙ output 1 a.c c.requires (dither_sum a.c s a.x0) in
    let e : c.i64_as_u32.result / 2 ^ (32 - a.c.f) ≡ dither_error a.c s a.x0 =
    ap (λ (n : ℕ). n / 2 ^ (32 - a.c.f)) (c.i64_as_u32.ensures ∙ ap (word w32) moved) ∙ error 1 a.c c.requires (dither_sum a.c s a.x0) in
    (y, λ i. record { x1 = x i; x2 = read w32 s.x1 c.self-1.given i; y1 = y i; y2 = read w32 s.y1 c.self-2-1.given i; e = e i })
