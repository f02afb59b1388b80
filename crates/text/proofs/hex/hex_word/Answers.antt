use Rattle.std.proofs.Common.{◌≡◌, ◌<◌, ◌+◌, ◌*◌, ◌^◌, ℕ, sym, ap, ◌∙◌, arith, drop, length, slice_index}
use borrow.Author.Tests.{eq-eqb}
use Rattle.text.specs.Hex.{hex_digit, hex_from}
use Rattle.text.proofs.HexDigits.{digit_none, digit_some, no_digit, hex_on, hex_over, grown, sixteen}
use Rattle.text.proofs.hex.hex_word.Goals as goal

-- what the byte at hand is
module _ (c : goal.In_ok-v) where
  abbrev byte-at : ℕ
  byte-at = slice_index c.args.field.now c.loop-byte.byte-index

  found : (hex_digit byte-at < 16) × (c.in_ok-v.field-0 ≡ hex_digit byte-at)
  found = let d = digit_some byte-at c.in_ok-v.field-0 (sym c.digit_of.ensures ∙ c.in_ok-v.was) in (omega (arith, d.0), d.1)

  below : c.loop-byte.v * 16 + c.in_ok-v.field-0 < 2 ^ 64
  below =
      let l = c.loop-byte in
      sixteen l.v c.in_ok-v.field-0 l.byte-index l.invariant.2 (omega (arith, found.0, found.1)) (omega (arith, c.loop-byte-test.true, l.invariant.1))

pub overflow_add-v : goal.overflow_add-v
overflow_add-v c = record { fits = below c }

pub overflow_mul-v : goal.overflow_mul-v
overflow_mul-v c =
    let l = c.loop-byte in
    let k = sixteen l.v 0 l.byte-index l.invariant.2 (omega arith) (omega (arith, c.loop-byte-test.true, l.invariant.1)) in
    record { fits = omega (arith, k) }

pub returns-in_err-v : goal.returns-in_err-v
returns-in_err-v c =
    let l = c.loop-byte in let s = c.args.field.now in
    let h = digit_none (slice_index s l.byte-index) (sym c.digit_of.ensures ∙ c.in_err-v.was) in
    c.from_residual.ensures
    ∙ sym (rw (eq-eqb (length s) 16 l.invariant.1) (l.invariant.3 ∙ no_digit s l.byte-index l.v c.loop-byte-test.true h))

pub loop-byte-preserved : goal.loop-byte-preserved
loop-byte-preserved c =
    let l = c.loop-byte in let s = c.args.field.now in let f = found c in (
      omega (arith, c.loop-byte-test.true),
      l.invariant.1,
      grown l.v c.in_ok-v.field-0 l.byte-index l.invariant.2 (omega (arith, f.0, f.1)),
      l.invariant.3 ∙ hex_on s l.byte-index l.v c.loop-byte-test.true (omega (arith, f.0))
          ∙ ap (λ (x : ℕ). hex_from (l.v * 16 + x) (drop (l.byte-index + 1) s)) (sym f.1),
    )

pub returns : goal.returns
returns c =
    let l = c.loop-byte in let s = c.args.field.now in
    sym (rw (eq-eqb (length s) 16 l.invariant.1) (l.invariant.3 ∙ hex_over s l.byte-index l.v c.loop-byte-test.false))
