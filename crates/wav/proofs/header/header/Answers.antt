-- The ranges of what there may be, and the four numbers' bytes in their places.
use Rattle.std.proofs.Common.{arith, refl, sym, ◌∙◌}
use Rattle.wav.specs.Header.{header_of}
use Rattle.wav.proofs.Headers.{ranges, le_bytes}
use Rattle.wav.proofs.header.header.Goals as goal

pub overflow_add-size : goal.overflow_add-size
overflow_add-size c = let g = ranges _ _ (sym c.may_be.ensures ∙ c.if-not-may_be.false) in record { fits = omega arith }

pub overflow_mul-rate : goal.overflow_mul-rate
overflow_mul-rate c = let g = ranges _ _ (sym c.may_be.ensures ∙ c.if-not-may_be.false) in record { fits = omega arith }

pub returns : goal.returns
unfolding header_of
returns c =
    let m = sym c.may_be.ensures ∙ c.if-not-may_be.false in
    let a = c.copy_from_slice.ensures.after ∙ c.to_le_bytes.ensures ∙ le_bytes _ in
    let b = c.copy_from_slice-2.ensures.after ∙ c.to_le_bytes-2.ensures ∙ le_bytes _ in
    let d = c.copy_from_slice-3.ensures.after ∙ c.to_le_bytes-3.ensures ∙ le_bytes _ in
    let e = c.copy_from_slice-4.ensures.after ∙ c.to_le_bytes-4.ensures ∙ le_bytes _ in
    rw (m, a, b, d, e) refl
